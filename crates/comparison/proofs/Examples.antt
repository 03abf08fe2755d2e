-- `FL` and `FR` over the alphabet `FLR` on a line of two columns, computed: the difference both ways; the checks and their order.
use Rattle.std.specs.Prelude.{ℕ, ◌*◌, ◌≡◌, refl, List, [], ◌∷◌, map, length, drop, replicate, pos, negsuc, Result, Ok, Err}
use Rattle.std.proofs.Common.{ap, ap₂, ◌∙◌}
use Rattle.std.proofs.Math.Option.{Option, some, none}
use Rattle.lists.specs.Lists.{numbers}
use Rattle.refusal.specs.declared.Refusal.TheVariants.{BadForm, Matrix as MatrixRefusal, Cost, Work, NoReading}
use Rattle.refusal.specs.declared.Refusal.{Refusal}
use Rattle.refusal.specs.Verdict.{first_refusal}
use Rattle.ctc.specs.Collapse.{merge, without_blanks, collapse}
use Rattle.automaton.specs.Automaton.{Accepts}
use Rattle.automaton.specs.Form.{ordered, valid_form, view, follow_of, ends_of}
use Rattle.automaton.proofs.ValidLaws.{view_proper}
use Rattle.automaton.specs.Accepted.{spells, accepts}
use Rattle.automaton.proofs.AcceptedLaws.{accepts_decides}
use Rattle.matrix.specs.Matrix.{Matrix, BARRED, matrix}
use Rattle.outcome.specs.Outcome.{Outcome}
use Rattle.outcome.proofs.OutcomeLaws.{outcome_unique}
use Rattle.outcome.proofs.ChoiceLaws.{not_after, preferred, better}
use Rattle.outcome.proofs.Exhaustive.{over, exhaustive, usable, decided, decided_outcome}
use Rattle.comparison.specs.Comparison.{Comparison, compared, turned_away, reported}
use Rattle.comparison.specs.Checks.{larger_need, compare_checks}
use Rattle.comparison.specs.Promise.{difference_report, Compares}

-- the forms of `FL`, `FR` and `F` over `FLR`, and that of `F` over `FL`
abbrev fl : List ℕ
fl = 0x10030002 ∷ 0x20000101 ∷ 0x20000202 ∷ 0x30000102 ∷ []

abbrev fr : List ℕ
fr = 0x10030002 ∷ 0x20000101 ∷ 0x20000203 ∷ 0x30000102 ∷ []

abbrev f₃ : List ℕ
f₃ = 0x10030001 ∷ 0x20000301 ∷ []

abbrev f₂ : List ℕ
f₂ = 0x10020001 ∷ 0x20000301 ∷ []

-- the costs of blank, F, L and R in two columns: FL is read for 2, FR for 5
abbrev costs : List ℕ
costs = 9 ∷ 0 ∷ 9 ∷ 9 ∷ 9 ∷ 9 ∷ 2 ∷ 5 ∷ []

abbrev line : Matrix
line = matrix costs 4 2

-- what the checks say of two forms and a matrix, with `room` work words
abbrev said : (f g : List ℕ) (costs : List ℕ) (width count room : ℕ) → Result (Unit {0}) Refusal
said f g costs width count room = first_refusal (compare_checks f g (matrix costs width count) room)

record Examples : Type 0 where
  -- (T + 1) × (2L + 1) for the form with more letters, whichever it is
  need : larger_need f₃ fl line ≡ 15
  need_exchanged : larger_need fl f₃ line ≡ 15
  -- work memory just long enough, one word less, and enough for the smaller form only
  rooms : map (said f₃ fl costs 4 2) (15 ∷ 14 ∷ 9 ∷ []) ≡ Ok tt ∷ Err Work ∷ Err Work ∷ []
  rooms_exchanged : map (said fl f₃ costs 4 2) (15 ∷ 14 ∷ 9 ∷ []) ≡ Ok tt ∷ Err Work ∷ Err Work ∷ []
  -- a list that is no form, in either place
  bad_first : said [] fl costs 4 2 15 ≡ Err BadForm
  bad_second : said fl [] costs 4 2 15 ≡ Err BadForm
  -- alphabets of 3 and 2 characters, also without a column and at either width
  unequal : map (λ w. said fl f₂ [] w 0 15) (3 ∷ 4 ∷ []) ≡ Err MatrixRefusal ∷ Err MatrixRefusal ∷ []
  unequal_exchanged : map (λ w. said f₂ fl [] w 0 15) (3 ∷ 4 ∷ []) ≡ Err MatrixRefusal ∷ Err MatrixRefusal ∷ []
  -- 255 columns, and one more; a cost of 1,000,001
  columns : map (λ t. said f₂ f₂ (replicate (t * 3) 1) 3 t 2000) (255 ∷ 256 ∷ []) ≡ Ok tt ∷ Err MatrixRefusal ∷ []
  dear : said f₂ f₂ (1 ∷ 1000001 ∷ 1 ∷ []) 3 1 6 ≡ Err Cost
  -- two faults: 11 before 12, 12 before 13, 13 before 15
  form_and_matrix : said fl [] costs 5 2 15 ≡ Err BadForm
  matrix_and_cost : said fl f₂ (1 ∷ 1000001 ∷ 1 ∷ 1 ∷ []) 4 1 15 ≡ Err MatrixRefusal
  cost_and_work : said f₂ f₂ (1 ∷ 1000001 ∷ 1 ∷ []) 3 1 5 ≡ Err Cost
  -- what is reported of an answer
  difference : reported (Ok (negsuc 2)) ≡ record { number = 0; difference = negsuc 2 }
  refused : map (λ n. reported (Err n)) (BadForm ∷ NoReading ∷ []) ≡ record { number = 11; difference = pos 0 } ∷ record { number = 16; difference = pos 0 } ∷ []
  -- one form without a reading, or both
  none_first : (M : Matrix) (p : List ℕ) → difference_report M none (some p) ≡ turned_away NoReading
  none_second : (M : Matrix) (p : List ℕ) → difference_report M (some p) none ≡ turned_away NoReading
  neither : (M : Matrix) → difference_report M none none ≡ turned_away NoReading

examples : Examples
unfolding first_refusal valid_form ordered
examples = record {
  need = refl;
  need_exchanged = refl;
  rooms = refl;
  rooms_exchanged = refl;
  bad_first = refl;
  bad_second = refl;
  unequal = refl;
  unequal_exchanged = refl;
  columns = refl;
  dear = refl;
  form_and_matrix = refl;
  matrix_and_cost = refl;
  cost_and_work = refl;
  difference = refl;
  refused = refl;
  none_first = λ M p. refl;
  none_second = λ M p. refl;
  neither = λ M. refl;
}

-- the outcome for each form
best_fl : Outcome (Accepts (view fl)) line (some (1 ∷ 2 ∷ []))
unfolding decided exhaustive over better preferred not_after usable collapse merge without_blanks spells numbers follow_of ends_of valid_form ordered
best_fl =
    let d = accepts_decides (view fl) 3 (view_proper fl refl) in
    decided_outcome line (Accepts (view fl)) (accepts (view fl)) (λ w. (d w).0) (λ w. (d w).1)

best_fr : Outcome (Accepts (view fr)) line (some (1 ∷ 3 ∷ []))
unfolding decided exhaustive over better preferred not_after usable collapse merge without_blanks spells numbers follow_of ends_of valid_form ordered
best_fr =
    let d = accepts_decides (view fr) 3 (view_proper fr refl) in
    decided_outcome line (Accepts (view fr)) (accepts (view fr)) (λ w. (d w).0) (λ w. (d w).1)

best_f : Outcome (Accepts (view f₃)) line (some (1 ∷ 0 ∷ []))
unfolding decided exhaustive over better preferred not_after usable collapse merge without_blanks spells numbers follow_of ends_of valid_form ordered
best_f =
    let d = accepts_decides (view f₃) 3 (view_proper f₃ refl) in
    decided_outcome line (Accepts (view f₃)) (accepts (view f₃)) (λ w. (d w).0) (λ w. (d w).1)

-- the same line with R barred in both columns: there is no reading as FR
abbrev barred : Matrix
barred = matrix (9 ∷ 0 ∷ 9 ∷ BARRED ∷ 9 ∷ 9 ∷ 2 ∷ BARRED ∷ []) 4 2

no_fr : Outcome (Accepts (view fr)) barred none
unfolding decided exhaustive over better preferred not_after usable collapse merge without_blanks spells numbers follow_of ends_of valid_form ordered
no_fr =
    let d = accepts_decides (view fr) 3 (view_proper fr refl) in
    decided_outcome barred (Accepts (view fr)) (accepts (view fr)) (λ w. (d w).0) (λ w. (d w).1)

-- FL is cheaper by 3. Of 16 work words 15 are needed, and the last is as it was.
fl_less_fr :
    (after : List ℕ) (answer : Comparison) → Compares fl fr line (replicate 16 7) after answer
    → (answer ≡ compared (negsuc 2)) × (drop 15 after ≡ 7 ∷ []) × (length after ≡ 16)
unfolding first_refusal valid_form ordered
fl_less_fr after answer h = (
  h.answered
      ∙ ap₂ (difference_report line) (outcome_unique line (Accepts (view fl)) h.first (some (1 ∷ 2 ∷ [])) h.first_is best_fl)
      (outcome_unique line (Accepts (view fr)) h.second (some (1 ∷ 3 ∷ [])) h.second_is best_fr),
  h.work.beyond,
  h.work.size,
)

-- the forms exchanged
fr_less_fl : (before after : List ℕ) (answer : Comparison) → length before ≡ 15 → Compares fr fl line before after answer → answer ≡ compared (pos 3)
unfolding first_refusal valid_form ordered
fr_less_fl before after answer e h =
    let c = rw e at h in
    c.answered
    ∙ ap₂ (difference_report line) (outcome_unique line (Accepts (view fr)) c.first (some (1 ∷ 3 ∷ [])) c.first_is best_fr)
    (outcome_unique line (Accepts (view fl)) c.second (some (1 ∷ 2 ∷ [])) c.second_is best_fl)

-- the larger form second: F is read for 9, and its table would need 9 words, but 15 may change
f_less_fl :
    (after : List ℕ) (answer : Comparison) → Compares f₃ fl line (replicate 16 7) after answer → (answer ≡ compared (pos 7)) × (drop 15 after ≡ 7 ∷ [])
unfolding first_refusal valid_form ordered
f_less_fl after answer h = (
  h.answered
      ∙ ap₂ (difference_report line) (outcome_unique line (Accepts (view f₃)) h.first (some (1 ∷ 0 ∷ [])) h.first_is best_f)
      (outcome_unique line (Accepts (view fl)) h.second (some (1 ∷ 2 ∷ [])) h.second_is best_fl),
  h.work.beyond,
)

-- one form without a reading: 16, a difference of 0, and the words that are not needed as they were
fl_without_fr :
    (after : List ℕ) (answer : Comparison) → Compares fl fr barred (replicate 16 7) after answer
    → (answer ≡ record { number = 16; difference = pos 0 }) × (drop 15 after ≡ 7 ∷ [])
unfolding first_refusal valid_form ordered
fl_without_fr after answer h = (
  h.answered ∙ without h.first h.second (outcome_unique barred (Accepts (view fr)) h.second none h.second_is no_fr),
  h.work.beyond,
)
  where
    without : (a b : Option (List ℕ)) → b ≡ none → difference_report barred a b ≡ turned_away NoReading
    without none b e = refl
    without (some p) b e = ap (difference_report barred (some p)) e
