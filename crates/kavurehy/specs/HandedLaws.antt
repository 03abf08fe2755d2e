-- From what an inner call promises to what the exported call promises; Compare with its forms exchanged.
use Rattle.std.specs.Prelude.{ℕ, ◌≡◌, List, [], ◌∷◌, map, length, ℤ, neg_ℤ}
use Rattle.std.proofs.Common.{sym, ap, ◌∙◌}
use Rattle.refusal.specs.Verdict.{Verdict}
use Rattle.refusal.specs.Report.{Report}
use Rattle.refusal.specs.Fills.{Fills}
use Rattle.export_counts.specs.Handed.{length_alone, Hands}
use Rattle.matrix.specs.Matrix.{Matrix}
use Rattle.comparison.specs.Comparison.{Comparison}
use Rattle.comparison.proofs.ExchangeLaws.{exchange}
use Rattle.kavurehy.specs.Handed.{FillsCounted, FillsPlain, ComparesHanded}

module _ {verdict : Verdict (List ℕ)} {answer : Report} {before after : List ℕ} (fills : Fills verdict answer before after) where
  pub fills_counted : {handed : List ℕ} {result : ℕ} → Hands length_alone answer handed result → FillsCounted verdict before after handed result
  fills_counted h = record { hands = rw fills.answered at h; memory = fills.memory }

  pub fills_plain : {result : ℕ} → result ≡ answer.number → FillsPlain verdict before after result
  fills_plain n = record { number = n ∙ ap (λ (r : Report). r.number) fills.answered; memory = fills.memory }

-- "Exchanging the forms changes the answer's sign and no refusal" (document 02, T-04), with work memory of the same length
pub compare_exchanged :
    (f g : List ℕ) (M : Matrix) (before after before' after' : List ℕ) (handed handed' : List ℤ) (result result' : ℕ) → length before ≡ length before'
    → ComparesHanded f g M before after handed result → ComparesHanded g f M before' after' handed' result'
    → (result' ≡ result) × (handed' ≡ map neg_ℤ handed)
compare_exchanged f g M before after before' after' handed handed' result result' e h k =
    let x = exchange f g M before after before' after' h.answer k.answer e h.compares k.compares in (
      k.hands.number ∙ ap (λ (c : Comparison). c.number) x ∙ sym h.hands.number,
      k.hands.list ∙ ap (λ (c : Comparison). c.difference ∷ []) x ∙ sym (ap (map neg_ℤ) h.hands.list),
    )
