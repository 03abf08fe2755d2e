-- From what is known of an answer to what is handed back.
use Rattle.std.specs.Prelude.{ℕ, ◌≡◌, cond, List, [], ◌∷◌}
use Rattle.refusal.specs.Report.{Report}
use Rattle.answers.specs.Judgement.{Judgement}
use Rattle.export_counts.specs.Handed.{Hands, HandsJudgement}

pub hands_as :
    (counts : Report → List ℕ) {answer told : Report} {handed : List ℕ} {result : ℕ} → answer ≡ told → (handed ≡ counts told) × (result ≡ told.number)
    → Hands counts answer handed result
hands_as counts e h = rw e (record { number = h.1; list = h.0 })

pub hands_judgement_as :
    {answer told : Judgement} {handed : List ℕ} {result : ℕ} → answer ≡ told → (handed ≡ cond told.accepted 1 0 ∷ []) × (result ≡ told.number)
    → HandsJudgement answer handed result
hands_judgement_as e h = rw e (record { number = h.1; accepted = h.0 })
