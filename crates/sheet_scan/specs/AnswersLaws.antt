-- From the answer of `scan` to the sheet that the input is.
use Rattle.std.specs.Prelude.{◌≡◌, refl, ℕ, length, Some}
use Rattle.std.proofs.Math.Option.{Option, some, none}
use Rattle.std.proofs.Common.{arith}
use Rattle.sheet_format.specs.Sheet.{Sheet, matrix_of}
use Rattle.sheet_scan.specs.declared.Sheet.{Sheet as Sizes}
use Rattle.sheet_scan.specs.Answers.{answer_of}

-- an answer with numbers shows that there is a sheet, and that the numbers are those of its parts
pub record Answered (o : Option Sheet) (alphabet text width count : ℕ) : Type 0 where
  pub sheet : Sheet
  pub is : o ≡ some sheet
  pub is_alphabet : alphabet ≡ length sheet.alphabet
  pub is_text : text ≡ length sheet.text
  pub is_width : width ≡ (matrix_of sheet).width
  pub is_count : count ≡ (matrix_of sheet).count

pub answered : (o : Option Sheet) (r : Sizes) → Some r ≡ answer_of o → Answered o r.alphabet r.text r.width r.count
answered none r e = let z : ◌≡◌ {A = ℕ} 0 1 = cc in absurd (omega arith)
answered (some S) r e = record { sheet = S; is = refl; is_alphabet = cc; is_text = cc; is_width = cc; is_count = cc }
