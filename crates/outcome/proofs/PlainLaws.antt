-- A rival is what demand 3 says (`PlainRival`), whatever the costs are.
use Rattle.std.specs.Prelude.{ℕ, ◌+◌, ◌≤◌, ◌<◌, ◌≡◌, List}
use Rattle.std.proofs.Common.{arith}
use Rattle.lists.proofs.EachLaws.{each_map}
use Rattle.matrix.specs.Matrix.{Matrix}
use Rattle.matrix.proofs.PathsLaws.{path_labels, path_unbarred}
use Rattle.outcome.specs.Outcome.{Rival}
use Rattle.outcome.specs.Plain.{PlainRival}

module _ (Word : List ℕ → Type 0) (k : ℕ) (M : Matrix) (wide : M.width ≡ k + 1) (p : List ℕ) where
  pub rival_plain : Rival Word M p → PlainRival Word k M p
  rival_plain r =
      let path = r.path.labels in
      record {
        one_each = r.path.one_each;
        labels = each_map (λ x. x < M.width) (λ x. x ≤ k) (λ x h. omega arith) p (path_labels M 0 p path);
        unbarred = path_unbarred M 0 p path;
        word = r.word;
      }
