-- Law: an answer past the checks depends on the words only by the outcome.
use Rattle.std.specs.Prelude.{ℕ, List}
use Rattle.std.proofs.Math.Option.{Option}
use Rattle.refusal.specs.Report.{Report}
use Rattle.matrix.specs.Matrix.{Matrix}
use Rattle.outcome.specs.Outcome.{Outcome}
use Rattle.decode_valid.specs.Answers.{Answers}
use Rattle.decode_valid.specs.Lent.{Lent}

pub answers_same :
    (Word₁ Word₂ : List ℕ → Type 0) {spelt : List ℕ → List ℕ} {form : ℕ} {M : Matrix} {need : ℕ} {before after : Lent} {answer : Report}
    → ((o : Option (List ℕ)) → Outcome Word₁ M o → Outcome Word₂ M o)
    → Answers Word₁ spelt form M need before after answer → Answers Word₂ spelt form M need before after answer
answers_same Word₁ Word₂ same a =
    record {
      outcome = a.outcome;
      is = same a.outcome a.is;
      answered = a.answered;
      path = a.path;
      word = a.word;
      work = a.work;
      size = a.size;
    }
