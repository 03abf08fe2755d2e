-- Laws: the targets from a letter's start up to the next are the letters that may follow it; the least of what they offer is the least key
-- along the letter's arcs; equal arcs have an equal least key; a least key of another label is the least of the other labels; its price is
-- the least price.
use Rattle.std.specs.Prelude.{ℕ, ◌+◌, ◌-◌, ◌/◌, ◌%◌, ◌<◌, ◌≤◌, min, ◌≡◌, refl, true, false, Bool, cond, eqb, List, length, get_or, take, drop}
use Rattle.std.proofs.Common.{sym, ap, subst, ◌∙◌, arith, ne_eqb}
use Rattle.std.proofs.lemmas.Bool.{eqb-false}
use Rattle.std.proofs.Math.Logic.{∥∥₁_elim}
use Rattle.std.specs.Coded.{le_prop}
use Rattle.lists.proofs.LeastLaws.{least_same}
use Rattle.lists.proofs.PartLaws.{part_at, part_length}
use Rattle.lists.specs.Least.{Least}
use Rattle.automaton.specs.Form.{letters_of, follow_of, target, view}
use Rattle.automaton.specs.Valid.{Valid}
use Rattle.automaton.proofs.ValidLaws.{follow_arc, arc_follow, follow_target}
use Rattle.form_starts.specs.Starts.{StartsAt, ArcStarts}
use Rattle.form_starts.specs.Loops.{range_source, range_rises, source_range}
use Rattle.form_arcs.specs.Targets.{Targets}
use Rattle.trellis.specs.Impossible.{TOP}
use Rattle.trellis.specs.Cells.{ByArc}
use Rattle.trellis_keys.specs.Keys.{Keys}
use Rattle.trellis_offers.specs.Offers.{FAR, key_of, unless_own, HaveKeys, LeastOffer, OffersKey, Follows, LeastOther, LeastKey}

-- Letter i: its targets are in the list from its start up to the next.
module _ {f ts s : List ℕ} (valid : Valid f) (targets : Targets f ts) (starts : ArcStarts f s) (i : ℕ) (low : 1 ≤ i) (high : i ≤ letters_of f) where
  few : i + 1 < 129
  few = let m = valid.head.letters_high in omega arith

  first : StartsAt f i (get_or s i 0)
  first = let h = few in starts.starts i (omega arith)

  next : StartsAt f (i + 1) (get_or s (i + 1) 0)
  next = starts.starts (i + 1) few

  -- the range of its arcs is inside the list
  pub arcs_inside : (get_or s i 0 ≤ get_or s (i + 1) 0) × (get_or s (i + 1) 0 ≤ length ts)
  arcs_inside = (range_rises f i (get_or s i 0) (get_or s (i + 1) 0) first next, (let q = next.inside in let n = targets.long in omega arith))

  abbrev arcs : List ℕ
  arcs = take (get_or s (i + 1) 0 - get_or s i 0) (drop (get_or s i 0) ts)

  long : length arcs ≡ get_or s (i + 1) 0 - get_or s i 0
  long = part_length ts (get_or s i 0) (get_or s (i + 1) 0) arcs_inside.1

  arc_target : (k : ℕ) → get_or s i 0 + k < get_or s (i + 1) 0 → get_or arcs k 0 ≡ target (get_or f (get_or s i 0 + k) 0)
  arc_target k h =
      let q = next.inside in part_at ts (get_or s i 0) (get_or s (i + 1) 0) 0 k h ∙ targets.is (get_or s i 0 + k) (omega arith)

  is : (k : ℕ) → k < length arcs → follow_of f i (get_or arcs k 0) ≡ true
  is k h =
      let p = first.past in
      let q = next.inside in
      let l = long in
      arc_follow f i (get_or arcs k 0) low
      (record {
        index = get_or s i 0 + k;
        past = omega arith;
        inside = omega arith;
        from = range_source f i (get_or s i 0) (get_or s (i + 1) 0) first next (get_or s i 0 + k) (omega arith) (omega arith);
        to = sym (arc_target k (omega arith));
      })

  -- they are the letters that may follow it
  pub arcs_follow : Follows f i arcs
  arcs_follow =
      record {
        is = is;
        all = λ j e.
            let a = follow_arc f i j low e in
            let r = source_range f i (get_or s i 0) (get_or s (i + 1) 0) first next a.index a.past a.inside a.from in
            let r0 = r.0 in
            let r1 = r.1 in
            let l = long in
            let k : ℕ = a.index - get_or s i 0 in
            let at : get_or s i 0 + k ≡ a.index = omega arith in
            ∣ (k, omega arith, arc_target k (omega arith) ∙ ap (λ n. target (get_or f n 0)) at ∙ a.to) ∣₁;
      }

-- letters that may follow a letter have keys
pub have_keys : {f : List ℕ} → Valid f → (i : ℕ) {letters : List ℕ} → Follows f i letters → HaveKeys letters
have_keys {f} valid i {letters} follows k h =
    let b = (follow_target f valid i (get_or letters k 0) (follows.is k h)).1 in let m = valid.head.letters_high in omega arith

module _ {f ks : List ℕ} (valid : Valid f) (keys : Keys f ks) (i : ℕ) where
  -- the least of what the letters offer that may follow letter i, if each offers its key unless its label is `own`
  pub least_follows :
      {letters : List ℕ} → Follows f i letters → (own : ℕ) (Offers : ℕ → ℕ → Type 0)
      → ((j m : ℕ) → 1 ≤ j → j ≤ letters_of f → Offers j m → m ≡ unless_own (key_of ks j) own) → {v : ℕ}
      → LeastOffer Offers letters (length letters) v → LeastOther f ks i own v
  least_follows {letters} follows own Offers only {v} l =
      record {
        within = l.within;
        met = λ h.
            let o = l.met h in
            let j = get_or letters o.0 0 in
            let e = follows.is o.0 o.1 in
            let b = follow_target f valid i j e in
            let m = met (key_of ks j) (eqb (key_of ks j % 256) own) refl (only j v b.0 b.1 o.2) h in
            (j, e, (λ z. m.0 (keys.label j b.0 b.1 ∙ z)), m.1);
        least = λ n o.
            let b = follow_target f valid i o.0 o.1 in
            ∥∥₁_elim (follows.all o.0 o.1) le_prop
            (λ t.
            let a = l.least t.0 t.1 in
            let e = only o.0 a.0 b.0 b.1 (subst (λ j. Offers j a.0) t.2 a.1) in
            let d : cond (eqb (key_of ks o.0 % 256) own) FAR (key_of ks o.0) ≡ key_of ks o.0 =
            ap (λ t. cond t FAR (key_of ks o.0)) (ne_eqb (key_of ks o.0 % 256) own (λ z. o.2 (sym (keys.label o.0 b.0 b.1) ∙ z))) in
            let q = o.3 in
            let c = a.2 in
            omega arith);
      }
    where
      met : (key : ℕ) (t : Bool) → eqb (key % 256) own ≡ t → v ≡ cond t FAR key → v < FAR → (key % 256 ≡ own → ⊥) × (v ≡ key)
      met key true e q h = absurd (omega arith)
      met key false e q h = (eqb-false (key % 256) own e, q)

  -- if each offers its key: no letter has the label 0
  pub least_letters : {letters : List ℕ} → Follows f i letters → {v : ℕ} → LeastOffer (OffersKey ks) letters (length letters) v → LeastKey f ks i v
  least_letters follows = least_follows follows 0 (OffersKey ks) only
    where
      only : (j m : ℕ) → 1 ≤ j → j ≤ letters_of f → m ≡ key_of ks j → m ≡ unless_own (key_of ks j) 0
      only j m low high e =
          let x = (valid.letter j low high).low in
          let l = keys.label j low high in
          e ∙ sym (ap (λ t. cond t FAR (key_of ks j)) (ne_eqb (key_of ks j % 256) 0 (λ z. omega arith)))

  -- a least key of another label is the least of the other labels
  pub least_another : (own m : ℕ) → LeastKey f ks i m → (m % 256 ≡ own → ⊥) → LeastOther f ks i own m
  least_another own m l d =
      record {
        within = l.within;
        met = λ h.
            let o = l.met h in
            let b = follow_target f valid i o.0 o.1 in
            (o.0, o.1, λ z. d (ap (λ k. k % 256) o.3 ∙ keys.label o.0 b.0 b.1 ∙ z), o.3);
        least = λ n o.
            let b = follow_target f valid i o.0 o.1 in
            let x = (valid.letter o.0 b.0 b.1).low in
            l.least n (o.0, o.1, λ z. omega arith, o.3);
      }

-- equal arcs, equal least key
pub least_equal : (f ks : List ℕ) (a i m : ℕ) → ((j : ℕ) → follow_of f i j ≡ follow_of f a j) → LeastKey f ks a m → LeastKey f ks i m
least_equal f ks a i m same =
    least_same (ByArc (view f) (key_of ks) i 0) (λ n o. (o.0, same o.0 ∙ o.1, o.2, o.3)) (λ n o. (o.0, sym (same o.0) ∙ o.1, o.2, o.3))

-- The price of a least key is the least price, if the keys' prices are those of `c`, held at TOP.
pub least_price :
    (f ks : List ℕ) → Valid f → (c : ℕ → ℕ) → ((j : ℕ) → 1 ≤ j → j ≤ letters_of f → c j ≡ min TOP (key_of ks j / 256)) → (i own m : ℕ)
    → LeastOther f ks i own m → Least TOP (ByArc (view f) c i own) (m / 256)
least_price f ks valid c held i own m l =
    record {
      within = let h = l.within in omega arith;
      met = λ h.
          let o = l.met (omega arith) in
          let b = follow_target f valid i o.0 o.1 in
          let e = held o.0 b.0 b.1 in
          let q = o.3 in
          (o.0, o.1, o.2, omega arith);
      least = λ n o.
          let b = follow_target f valid i o.0 o.1 in
          let e = held o.0 b.0 b.1 in
          let h = l.least (key_of ks o.0) (o.0, o.1, o.2, refl) in
          let w = l.within in
          let q = o.3 in
          omega arith;
    }
