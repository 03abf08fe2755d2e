-- What the exported calls promise: what the inner call promises of its answer and of each lent list, with the answer handed back as a
-- number and a list of counts.
use Rattle.std.specs.Prelude.{ℕ, ◌≡◌, List, ℤ}
use Rattle.lists.specs.Memory.{written}
use Rattle.refusal.specs.Verdict.{Verdict}
use Rattle.refusal.specs.Report.{Report}
use Rattle.refusal.specs.Fills.{report, filling}
use Rattle.answers.specs.Judgement.{report as judgement}
use Rattle.export_counts.specs.Handed.{length_alone, price_and_length, price_and_lengths, Hands, HandsJudgement}
use Rattle.judge.specs.Judge.{judged}
use Rattle.matrix.specs.Matrix.{Matrix}
use Rattle.decode_valid.specs.Lent.{Lent}
use Rattle.decode.specs.Promise.{Decodes}
use Rattle.read_text.specs.Promise.{Reads}
use Rattle.comparison.specs.Comparison.{Comparison}
use Rattle.comparison.specs.Promise.{Compares}
use Rattle.export_difference.specs.Handed.{HandsDifference}

-- A call that fills one list: the list begins with what the verdict gives and is otherwise as it was.
pub record FillsCounted (verdict : Verdict (List ℕ)) (before after handed : List ℕ) (result : ℕ) : Type 0 where
  pub hands : Hands length_alone (report verdict) handed result
  pub memory : after ≡ written (filling verdict) before

-- The same where no count is handed back.
pub record FillsPlain (verdict : Verdict (List ℕ)) (before after : List ℕ) (result : ℕ) : Type 0 where
  pub number : result ≡ (report verdict).number
  pub memory : after ≡ written (filling verdict) before

-- Judge.
abbrev pub Judges : (form word handed : List ℕ) (result : ℕ) → Type 0
Judges form word handed result = HandsJudgement (judgement (judged form word)) handed result

-- Decode: what it promises for some report, and that report handed back.
pub record DecodesCounted (form : List ℕ) (M : Matrix) (before after : Lent) (handed : List ℕ) (result : ℕ) : Type 0 where
  pub answer : Report
  pub decodes : Decodes form M before after answer
  pub hands : Hands price_and_length answer handed result

-- Read, in the same way.
pub record ReadsCounted (alphabet text : List ℕ) (M : Matrix) (form form' : List ℕ) (before after : Lent) (handed : List ℕ) (result : ℕ) : Type 0 where
  pub answer : Report
  pub reads : Reads alphabet text M form form' before after answer
  pub hands : Hands price_and_lengths answer handed result

-- Compare, in the same way; the difference is a signed number.
pub record ComparesHanded (first second : List ℕ) (M : Matrix) (before after : List ℕ) (handed : List ℤ) (result : ℕ) : Type 0 where
  pub answer : Comparison
  pub compares : Compares first second M before after answer
  pub hands : HandsDifference answer handed result
