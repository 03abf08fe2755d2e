-- No output is longer than 1,031 bytes: the lines of a price of 9 digits, of 255 characters and of 255 labels with 2 digits each.
use Rattle.std.specs.Prelude.{ℕ, ◌<◌, ◌≤◌, List, length}
use Rattle.std.proofs.Common.{ap, ⊎_elim, arith}
use Rattle.std.proofs.lemmas.List.{length-map}
use Rattle.lists.proofs.EachLaws.{each_map}
use Rattle.ctc.specs.Collapse.{collapse}
use Rattle.ctc.proofs.CollapseLaws.{collapse_shorter}
use Rattle.matrix.specs.Matrix.{Matrix, price}
use Rattle.matrix.proofs.PathsLaws.{path_labels}
use Rattle.alphabet.specs.Labels.{character, characters}
use Rattle.sheet_lines.specs.LengthsLaws.{reading_short, refusal_short}
use Rattle.sheet_read.specs.Answer.{longest, PrintsReading}
use Rattle.sheet_read.proofs.PrintedLaws.{PrintsRefusal, PrintsPath, reading_printed, printed_price}

refusal_bound : (output : List ℕ) → PrintsRefusal output → length output ≤ longest
refusal_bound output h = let e = ap length h.line in let l = refusal_short h.refusal in omega arith

path_bound : (A : List ℕ) (M : Matrix) (output : List ℕ) → PrintsPath A M output → length output ≤ longest
path_bound A M output h =
    let p = h.path in
    let few = h.few in
    let narrow = h.narrow in
    let n = h.is.one_each in
    let s = collapse_shorter p in
    let m = length-map (collapse p) (character A) in
    let most = printed_price h in
    let e = ap length h.lines in
    let l =
    reading_short (price M p) (characters A (collapse p)) p (omega arith) (omega arith) (omega arith)
    (each_map (λ x. x < M.width) (λ x. x < 100) (λ x l. omega arith) p (path_labels M 0 p h.is.labels)) in
    omega arith

pub reading_bound : (A s : List ℕ) (M : Matrix) (output : List ℕ) → PrintsReading A s M output → length output ≤ longest
reading_bound A s M output h = ⊎_elim (refusal_bound output) (path_bound A M output) (reading_printed A s M output h)
