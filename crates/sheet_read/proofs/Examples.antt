-- What the program's memory is enough for, computed: path and word memory for 255 columns, and 16,384 work words. A need is an odd number
-- times at most 256, so it is never 16,384 itself. The form memory is enough for every form: none has more than 16,257 words.
use Rattle.std.specs.Prelude.{ℕ, ◌+◌, ◌*◌, ◌≡◌, refl, leb, true, replicate, Result, Ok, Err}
use Rattle.refusal.specs.declared.Refusal.{Refusal}
use Rattle.lists.specs.Each.{all}
use Rattle.refusal.specs.declared.Refusal.TheVariants.{Work}
use Rattle.refusal.specs.Verdict.{first_refusal}
use Rattle.matrix.specs.Matrix.{matrix}
use Rattle.decode_checks.specs.Checks.{needed, matrix_checks}
use Rattle.sheet_read.specs.Answer.{form_room, lent_rooms}

-- what the checks say of t columns of two costs and a form of l letters over one character
abbrev said : (t l : ℕ) → Result (Unit {0}) Refusal
said t l = first_refusal (matrix_checks 1 l (matrix (replicate (t * 2) 1) 2 t) lent_rooms)

record Examples : Type 0 where
  full_line : said 255 31 ≡ Ok tt
  below : needed 128 63 ≡ 16383
  enough : said 128 63 ≡ Ok tt
  above : needed 144 56 ≡ 16385
  too_many : said 144 56 ≡ Err Work
  every_form : leb (1 + 127 + 127 * 127) form_room ≡ true

examples : Examples
unfolding first_refusal
examples = record { full_line = refl; below = refl; enough = refl; above = refl; too_many = refl; every_form = refl }
