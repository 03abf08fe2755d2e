-- Laws of `Fills`: a call that was refused, and one that filled its list.
use Rattle.std.specs.Prelude.{ℕ, ◌≡◌, refl, List}
use Rattle.std.proofs.Common.{sym, ap}
use Rattle.lists.proofs.WrittenLaws.{written_none}
use Rattle.lists.specs.Memory.{Wrote}
use Rattle.refusal.specs.declared.Refusal.{Refusal}
use Rattle.refusal.specs.Verdict.{Verdict, passed, refused}
use Rattle.refusal.specs.Report.{turned_away}
use Rattle.refusal.specs.Fills.{counted, Fills}

module _ {A : Type 0} where
  pub fills_refused : (v : Verdict (List A)) (n : Refusal) (memory : List A) → v ≡ refused n → Fills v (turned_away n) memory memory
  fills_refused v n memory e = rw e (record { answered = refl; memory = sym (written_none memory) })

  pub fills_wrote : (v : Verdict (List A)) (w before after : List A) (n : ℕ) → v ≡ passed w → Wrote w before after n → Fills v (counted n) before after
  fills_wrote v w before after n e h = rw e (record { answered = ap counted h.count; memory = h.memory })
