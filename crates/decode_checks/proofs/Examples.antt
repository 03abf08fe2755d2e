-- Refusals 11 to 15 at their limits, and their order, computed on the form of `ab*`, where L is 2 and K is 2.
use Rattle.std.specs.Prelude.{ℕ, ◌*◌, ◌≡◌, refl, List, [], ◌∷◌, map, replicate, Result, Ok, Err}
use Rattle.refusal.specs.declared.Refusal.{Refusal}
use Rattle.refusal.specs.declared.Refusal.TheVariants.{BadForm, Matrix as MatrixRefusal, Cost, OutputMemory, Work}
use Rattle.refusal.specs.Verdict.{first_refusal}
use Rattle.automaton.specs.Form.{ordered, valid_form}
use Rattle.matrix.specs.Matrix.{matrix}
use Rattle.decode_checks.specs.Checks.{needed, decode_checks}

abbrev form : List ℕ
form = 0x10020002 ∷ 0x20000301 ∷ 0x20000202 ∷ 0x30000102 ∷ 0x30000202 ∷ []

abbrev one : List ℕ
one = 0x10020001 ∷ 0x20000301 ∷ []

-- what the checks give for the form with these costs, this width and count, and path, word and work memory of these lengths
abbrev said : (costs : List ℕ) (width count path word work : ℕ) → Result (Unit {0}) Refusal
said costs width count path word work = first_refusal (decode_checks form (matrix costs width count) (record { path = path; word = word; work = work }))

-- one column in which the a costs c
abbrev column : ℕ → List ℕ
column c = 5 ∷ c ∷ 9 ∷ []

abbrev three : List ℕ
three = replicate 9 1

record Examples : Type 0 where
  -- "T = 3, L = 2 needs 20 work words"
  need : needed 3 2 ≡ 20
  least : needed 0 1 ≡ 3
  most : needed 255 127 ≡ 65280
  -- memory just long enough, and one element less
  enough : said three 3 3 3 3 20 ≡ Ok tt
  short_work : said three 3 3 3 3 19 ≡ Err Work
  short_word : said three 3 3 3 2 20 ≡ Err OutputMemory
  short_path : said three 3 3 2 3 20 ≡ Err OutputMemory
  no_column : said [] 3 0 0 0 5 ≡ Ok tt
  -- "Cost 1,000,000 passes, 1,000,001 is 13." "Refusal 13 spares that one number": 4,294,967,295
  costs :
      map (λ c. said (column c) 3 1 1 1 10) (0 ∷ 1000000 ∷ 1000001 ∷ 4294967294 ∷ 4294967295 ∷ [])
      ≡ Ok tt ∷ Ok tt ∷ Err Cost ∷ Err Cost ∷ Ok tt ∷ []
  -- a barred label does not hide another cost
  beside_barred : said (5 ∷ 4294967295 ∷ 1000001 ∷ []) 3 1 1 1 10 ≡ Err Cost
  -- 255 columns, and one more
  columns : map (λ t. said (replicate (t * 3) 1) 3 t t t 2000) (255 ∷ 256 ∷ []) ≡ Ok tt ∷ Err MatrixRefusal ∷ []
  -- a width of K and of K + 2, also without a column; a list too short, and too long
  widths : map (λ w. said [] w 0 0 0 5) (2 ∷ 3 ∷ 4 ∷ []) ≡ Err MatrixRefusal ∷ Ok tt ∷ Err MatrixRefusal ∷ []
  lengths : map (λ n. said (replicate n 1) 3 1 1 1 10) (2 ∷ 3 ∷ 4 ∷ []) ≡ Err MatrixRefusal ∷ Ok tt ∷ Err MatrixRefusal ∷ []
  -- of `a` over `ab`, L is 1 and K is 2: a width of 3, and 3 work words without a column
  one_letter :
      map (λ w. first_refusal (decode_checks one (matrix [] w 0) (record { path = 0; word = 0; work = 3 }))) (2 ∷ 3 ∷ [])
      ≡ Err MatrixRefusal ∷ Ok tt ∷ []
  -- two faults: 12 before 13, 13 before 14, 14 before 15; 11 before 12
  matrix_and_cost : said (column 1000001) 4 1 1 1 10 ≡ Err MatrixRefusal
  cost_and_output : said (column 1000001) 3 1 0 1 10 ≡ Err Cost
  output_and_work : said (column 1) 3 1 1 0 9 ≡ Err OutputMemory
  form_and_matrix : first_refusal (decode_checks [] (matrix [] 0 256) (record { path = 0; word = 0; work = 0 })) ≡ Err BadForm

examples : Examples
unfolding first_refusal valid_form ordered
examples = record {
  need = refl;
  least = refl;
  most = refl;
  enough = refl;
  short_work = refl;
  short_word = refl;
  short_path = refl;
  no_column = refl;
  costs = refl;
  beside_barred = refl;
  columns = refl;
  widths = refl;
  lengths = refl;
  one_letter = refl;
  matrix_and_cost = refl;
  cost_and_output = refl;
  output_and_work = refl;
  form_and_matrix = refl;
}
