-- From what `scan` promises for an input to what is printed for it.
use Rattle.std.specs.Prelude.{ℕ, ◌+◌, ◌-◌, ◌*◌, ◌≤◌, ◌≡◌, refl, List, length, take, drop, Some, None}
use Rattle.std.proofs.Common.{sym, ap, ap₂, ◌∙◌, arith}
use Rattle.std.proofs.Math.Option.{Option, some, none}
use Rattle.lists.proofs.WrittenLaws.{take_written, written_fits}
use Rattle.refusal.specs.declared.Refusal.TheVariants as refusal
use Rattle.refusal.specs.Number.{number_of}
use Rattle.matrix.specs.Matrix.{matrix}
use Rattle.sheet_format.specs.Sheet.{Sheet, sheet_of, matrix_of}
use Rattle.sheet_format.proofs.PartsLaws.{sheet_within, sheet_alphabet, sheet_text, sheet_costs, sheet_area}
use Rattle.sheet_scan.specs.Answers.{answer_of, Scans}
use Rattle.sheet_scan.specs.AnswersLaws.{answered}
use Rattle.sheet_scan.specs.declared.Sheet.{Sheet as Sizes}
use Rattle.sheet_lines.specs.Lines.{refusal_line}
use Rattle.sheet_read.specs.Answer.{PrintsReading}
use Rattle.sheet_answer.specs.Answer.{PrintsSheet, Prints}

-- A sheet by its places: the two lines are within the input, the costs within the memory, and what is printed for these is what is printed
-- for the sheet.
pub record Laid (input costs : List ℕ) (a t w n : ℕ) : Type 0 where
  pub lines : a + 1 + t ≤ length input
  pub few : n * w ≤ 16384
  pub room : n * w ≤ length costs
  pub prints :
      (output : List ℕ) → PrintsReading (take a input) (take (a + 1 + t - (a + 1)) (drop (a + 1) input)) (matrix (take (n * w) costs) w n) output
      → Prints input output

module _ (input before costs : List ℕ) where
  pub laid_out : (r : Sizes) → Scans input before costs (Some r) → Laid input costs r.alphabet r.text r.width r.count
  laid_out r h =
      let a = r.alphabet in
      let t = r.text in
      let w = r.width in
      let n = r.count in
      let s = answered (sheet_of input) r h.answer in
      let S = s.sheet in
      let M = matrix_of S in
      let within = sheet_within input S s.is in
      let limit = sheet_costs input S s.is in
      let size : n * w ≡ length M.costs = ap₂ ◌*◌ s.is_count s.is_width ∙ sym (sheet_area input S s.is) in
      let memory = h.costs S s.is in
      let stored : take (n * w) costs ≡ M.costs = ap (take (n * w)) memory ∙ take_written M.costs before (n * w) size in
      let alphabet : take a input ≡ S.alphabet = ap (λ k. take k input) s.is_alphabet ∙ sheet_alphabet input S s.is in
      let k : a + 1 + t - (a + 1) ≡ length S.text = omega (arith, s.is_text) in
      let text : take (a + 1 + t - (a + 1)) (drop (a + 1) input) ≡ S.text =
      ap₂ (λ k j. take k (drop (j + 1) input)) k s.is_alphabet ∙ sheet_text input S s.is in
      let same : matrix (take (n * w) costs) w n ≡ M = ap (λ c. matrix c w n) stored ∙ ap₂ (matrix M.costs) s.is_width s.is_count in
      record {
        lines = omega (arith, s.is_alphabet, s.is_text);
        few = omega arith;
        room = omega (arith, ap length memory, written_fits M.costs before);
        prints = λ output p. rw s.is (rw (alphabet, text, same) at p);
      }

  pub no_sheet : Scans input before costs None → Prints input (refusal_line (number_of refusal.Sheet))
  no_sheet h = by (sheet_of input) h.answer
    where
      by : (o : Option Sheet) → None ≡ answer_of o → PrintsSheet o (refusal_line (number_of refusal.Sheet))
      by none e = refl
      by (some S) e = let z : ◌≡◌ {A = ℕ} 0 1 = cc in absurd (omega arith)
