-- A graph has steps from state to state by a label, and states where a way may end. A way is a list of labels that leads to such a state.
use Rattle.std.specs.Prelude.{ℕ, ◌≡◌, List, [], ◌∷◌}

pub record Graph (S : Type 0) : Type 1 where
  pub Step : S → ℕ → S → Type 0
  pub Ends : S → Type 0

module _ {S : Type 0} (G : Graph S) where
  -- the labels lead from one state to the other, by one step each
  abbrev pub Leads : S → List ℕ → S → Type 0
  Leads s [] u = s ≡ u
  Leads s (x ∷ p) u = (s' : S) × G.Step s x s' × Leads s' p u

  -- the labels lead from the state to one where a way may end
  pub record Way (s : S) (p : List ℕ) : Type 0 where
    pub end : S
    pub leads : Leads s p end
    pub may : G.Ends end
