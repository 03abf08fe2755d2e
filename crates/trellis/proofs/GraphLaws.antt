-- Laws of graphs: ways joined and split, and ways of no label.
use Rattle.std.specs.Prelude.{ℕ, refl, List, [], ◌∷◌, ◌++◌}
use Rattle.std.proofs.Common.{sym, subst}
use Rattle.trellis.specs.Graph.{Graph, Leads, Way}

module _ {S : Type 0} (G : Graph S) where
  -- joined and split
  pub leads_append : (s m u : S) (p q : List ℕ) → Leads G s p m → Leads G m q u → Leads G s (p ++ q) u
  leads_append s m u [] q h g = subst (λ s. Leads G s q u) (sym h) g
  leads_append s m u (x ∷ p) q h g = (h.0, h.1, leads_append h.0 m u p q h.2 g)

  pub leads_split : (s u : S) (p q : List ℕ) → Leads G s (p ++ q) u → (m : S) × Leads G s p m × Leads G m q u
  leads_split s u [] q h = (s, refl, h)
  leads_split s u (x ∷ p) q h = let g = leads_split h.0 u p q h.2 in (g.0, (h.0, h.1, g.1), g.2)

  pub way_step : {s s' : S} {x : ℕ} {p : List ℕ} → G.Step s x s' → Way G s' p → Way G s (x ∷ p)
  way_step {s' = s'} h w = record { end = w.end; leads = (s', h, w.leads); may = w.may }

  pub way_split : (s : S) (x : ℕ) (p : List ℕ) → Way G s (x ∷ p) → (s' : S) × G.Step s x s' × Way G s' p
  way_split s x p w = let l = w.leads in (l.0, l.1, record { end = w.end; leads = l.2; may = w.may })

  -- a way of no label ends where it begins
  pub way_here : (s : S) → G.Ends s → Way G s []
  way_here s e = record { end = s; leads = refl; may = e }

  pub way_none : (s : S) → Way G s [] → G.Ends s
  way_none s w = subst G.Ends (sym w.leads) w.may
