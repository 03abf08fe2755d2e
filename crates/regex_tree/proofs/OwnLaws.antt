-- What it means that a part is parsed from its own bytes alone, whatever follows them, and laws that show it: of one byte, of one byte
-- more, and of what is enclosed up to its closing sign.
use Rattle.std.specs.Prelude.{◌≡◌, refl, ◌⊎◌, List, [], ◌∷◌, ◌++◌, Bool, true, false, ℕ, eqb}
use Rattle.std.proofs.Common.{ap, ◌∙◌, inl, inr, arith, eqb-true}
use Rattle.std.proofs.Math.Option.{Option, some, none}
use Prim.Native.Char.{Char, code}
use Rattle.lists.proofs.OrderLaws.{or_either}
use Rattle.lists.specs.Each.{Each}
use Rattle.refusal.specs.declared.Refusal.{Refusal}
use Rattle.regex_tree.specs.Parsing.{Parsing, found, enclosed}
use Rattle.text.specs.Text.{one_of, next, rest, in_front, split}
use Rattle.regex_tree.proofs.SaysLaws.{Says, enclosed_says}

-- a text that begins with a sign is that sign and the rest
pub next_is : (c : Char) (s : List ℕ) → next c s ≡ true → s ≡ code c ∷ rest s
next_is c [] e = let z : ◌≡◌ {A = ℕ} 0 1 = cc in absurd (omega arith)
next_is c (b ∷ s) e = ap (λ (k : ℕ). k ∷ s) (eqb-true b (code c) e)

-- what holds of each of some bytes holds of a byte that is one of them
pub of_one : (P : ℕ → Type 0) (cs : List ℕ) (b : ℕ) → Each P cs → one_of cs b ≡ true → P b
of_one P [] b h e = let z : ◌≡◌ {A = ℕ} 0 1 = cc in absurd (omega arith)
of_one P (c ∷ cs) b h e = by (or_either (eqb b c) (one_of cs b) e) (of_one P cs b h.1)
  where
    by : (eqb b c ≡ true) ⊎ (one_of cs b ≡ true) → (one_of cs b ≡ true → P b) → P b
    by (inl k) ih = rw (eqb-true b c k) h.0
    by (inr k) ih = ih k

-- the fault is at the front of s
abbrev pub Here : List ℕ → Refusal → List ℕ → Type 0
Here s n r = r ≡ s

-- f answers from the bytes of s before r, whatever follows them
pub record Own {W R : Type 0} (f : W → List ℕ → R) (gives : List ℕ → R) (s r : List ℕ) : Type 0 where
  pub own : List ℕ
  pub splits : s ≡ own ++ r
  pub alone : (w : W) (v : List ℕ) → f w (own ++ v) ≡ gives v

module _ {W R : Type 0} (f : W → List ℕ → R) (gives : List ℕ → R) where
  pub own_one : (b : ℕ) (s : List ℕ) → ((w : W) (t : List ℕ) → f w (b ∷ t) ≡ gives t) → Own f gives (b ∷ s) s
  own_one b s h = record { own = b ∷ []; splits = refl; alone = h }

  pub own_more :
      {W' : Type 0} (g : W' → List ℕ → R) (b : ℕ) (s r : List ℕ) → ((w : W) (t : List ℕ) → (w' : W') × (f w (b ∷ t) ≡ g w' t)) →
      Own g gives s r → Own f gives (b ∷ s) r
  own_more g b s r h o =
      record {
        own = b ∷ o.own;
        splits = ap (λ (l : List ℕ). b ∷ l) o.splits;
        alone = λ w v. let e = h w (o.own ++ v) in e.1 ∙ o.alone e.0 v;
      }

  pub own_map : {R' : Type 0} (k : R → R') (s r : List ℕ) → Own f gives s r → Own (λ w t. k (f w t)) (λ v. k (gives v)) s r
  own_map k s r o = record { own = o.own; splits = o.splits; alone = λ w v. ap k (o.alone w v) }

  -- so does a function that agrees with f on texts that begin with b, if f needs a byte to answer so
  pub own_same :
      (g : W → List ℕ → R) (w : W) (b : ℕ) (s r : List ℕ) → (f w [] ≡ gives [] → ⊥) → ((w : W) (t : List ℕ) → g w (b ∷ t) ≡ f w (b ∷ t)) →
      Own f gives (b ∷ s) r → Own g gives (b ∷ s) r
  own_same g w b s r no_bytes h o = by o.own o.splits o.alone
    where
      by : (u : List ℕ) → b ∷ s ≡ u ++ r → ((w : W) (v : List ℕ) → f w (u ++ v) ≡ gives v) → Own g gives (b ∷ s) r
      by [] e a = absurd (no_bytes (a w []))
      by (x ∷ u) e a = let q : b ≡ x = cc in record { own = x ∷ u; splits = e; alone = λ w v. (rw q at (h w (u ++ v))) ∙ a w v }

-- The end of an enclosure, with what is inside.

abbrev pub Ends : {I : Type 0} → (List ℕ → Option (I × List ℕ)) → List ℕ → Option (I × List ℕ) → Type 0
Ends f s none = Unit {0}
Ends f s (some x) = Own {W = Unit {0}} (λ _. f) (λ v. some (x.0, v)) s x.1

pub ends_more :
    (f g : List ℕ → Option (List ℕ × List ℕ)) (b : ℕ) (s : List ℕ) → ((t : List ℕ) → f (b ∷ t) ≡ in_front b (g t)) →
    (y : Option (List ℕ × List ℕ)) → Ends g s y → Ends f (b ∷ s) (in_front b y)
ends_more f g b s h none o = tt
ends_more f g b s h (some x) o =
    own_more (λ _. f) _ (λ _ t. in_front b (g t)) b s x.1 (λ w t. (tt, h t)) (own_map (λ _. g) (λ v. some (x.0, v)) (in_front b) s x.1 o)

pub split_ends : (c : Char) (s : List ℕ) → Ends (split c) s (split c s)
unfolding split
split_ends c [] = tt
split_ends c (b ∷ s) = by (eqb b (code c)) refl (split_ends c s)
  where
    by :
        (t : Bool) → eqb b (code c) ≡ t → Ends (split c) s (split c s) →
        Ends (split c) (b ∷ s) (elim t [ true ↦ some ([], s) | false ↦ in_front b (split c s) ])
    by true e h = own_one (λ _. split c) (λ v. some ([], v)) b s (λ w t. rw (e, split))
    by false e h = ends_more (split c) (split c) b s (λ t. rw (e, split)) (split c s) h

-- what is found inside, from the bytes up to its end
abbrev pub Inside : {I X : Type 0} → Refusal → (I → Option X) → (List ℕ → Option (I × List ℕ)) → List ℕ → X → List ℕ → Type 0
Inside {I} n f g s a r = Own {W = List ℕ} (λ w t. enclosed n w f (g t)) (found a) s r × (i : I) × (f i ≡ some a)

pub enclosed_own :
    {I X : Type 0} (n : Refusal) (w : List ℕ) (f : I → Option X) (g : List ℕ → Option (I × List ℕ)) (s : List ℕ) →
    Ends g s (g s) → Says (Inside n f g s) (Here w) (enclosed n w f (g s))
unfolding enclosed
enclosed_own n w f g s h = enclosed_says (Inside n f g s) (Here w) n w f (g s) refl (λ x a e q. by x a q (rw e at h))
  where
    by : (x : _ × List ℕ) (a : _) → f x.0 ≡ some a → Ends g s (some x) → Inside n f g s a x.1
    by x a q o = (record { own = o.own; splits = o.splits; alone = λ w v. rw (o.alone tt v, enclosed) (rw q) }, x.0, q)

-- what is found is parsed from its own bytes
abbrev pub OwnAs : {W X : Type 0} → (W → List ℕ → Parsing X) → List ℕ → X → List ℕ → Type 0
OwnAs f s a r = Own f (found a) s r

abbrev pub Alone : {X : Type 0} → (List ℕ → Parsing X) → List ℕ → X → List ℕ → Type 0
Alone f s a r = OwnAs {W = Unit {0}} (λ _. f) s a r
