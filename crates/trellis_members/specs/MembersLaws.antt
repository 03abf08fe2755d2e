-- Laws of a set with the list of its members: the number of members, no member, one member more, and a state put if it fits.
use Rattle.std.specs.Prelude.{ℕ, zero, suc, ◌+◌, ◌<◌, ◌≤◌, ◌≡◌, refl, Bool, true, false, cond, not, ◌&&◌, ◌||◌, ◌⊎◌, List, [], ◌∷◌, length, get_or, take, set as put, replicate}
use Rattle.std.specs.Int.{from_bool}
use Rattle.std.proofs.Common.{sym, ap, subst, ◌∙◌, inl, inr, arith, length-set, length-take-le, get_or-take, get_or-set_same, get_or-set_other}
use Rattle.std.proofs.lemmas.Bool.{false≢true}
use Rattle.std.proofs.lemmas.List.{length-replicate, set-get_or}
use Rattle.lists.proofs.OrderLaws.{eq_or_ne}
use Rattle.lists.proofs.MarksLaws.{has_none, marks_none, marks_one, marks_same}
use Rattle.lists.specs.Marks.{Has, Marks, Listed}
use Rattle.trellis_members.specs.Members.{trues, Members, Lists, IsEmpty, Just, JustIf}

pub has_inside : (s : List Bool) (u : ℕ) → Has s u → u < length s
has_inside [] u h = absurd (false≢true h)
has_inside (x ∷ s) zero h = omega arith
has_inside (x ∷ s) (suc u) h = let l = has_inside s u h in omega arith

-- The number of members.

pub trues_none : (s : List Bool) → ((u : ℕ) → Has s u → ⊥) → trues s ≡ 0
unfolding trues
trues_none [] f = refl
trues_none (true ∷ s) f = absurd (f 0 refl)
trues_none (false ∷ s) f = trues_none s (λ u. f (suc u))

pub trues_most : (s : List Bool) → trues s ≤ length s
unfolding trues
trues_most [] = omega arith
trues_most (true ∷ s) = let h = trues_most s in omega arith
trues_most (false ∷ s) = let h = trues_most s in omega arith

-- a set that lacks a place has fewer members than places
pub trues_fewer : (s : List Bool) (u : ℕ) → u < length s → get_or s u false ≡ false → trues s < length s
unfolding trues
trues_fewer [] u h e = absurd (omega arith)
trues_fewer (true ∷ s) zero h e = let z : ◌≡◌ {A = ℕ} 0 1 = cc in absurd (omega arith)
trues_fewer (true ∷ s) (suc u) h e = let m = trues_fewer s u (omega arith) e in omega arith
trues_fewer (false ∷ s) zero h e = let m = trues_most s in omega arith
trues_fewer (false ∷ s) (suc u) h e = let m = trues_fewer s u (omega arith) e in omega arith

pub trues_put : (s : List Bool) (u : ℕ) → u < length s → get_or s u false ≡ false → trues (put s u true) ≡ trues s + 1
unfolding trues
trues_put [] u h e = absurd (omega arith)
trues_put (true ∷ s) zero h e = let z : ◌≡◌ {A = ℕ} 0 1 = cc in absurd (omega arith)
trues_put (true ∷ s) (suc u) h e = let m = trues_put s u (omega arith) e in omega arith
trues_put (false ∷ s) zero h e = omega arith
trues_put (false ∷ s) (suc u) h e = trues_put s u (omega arith) e

-- No member.

pub members_empty : (s : List Bool) (list : List ℕ) → length s ≡ 255 → length list ≡ 256 → ((u : ℕ) → Has s u → ⊥) → Members s list 0
members_empty s list size room f =
    record {
      size = size;
      room = room;
      number = sym (trues_none s f);
      has = λ k h. absurd (omega arith);
      all = λ u h. absurd (f u h);
    }

pub members_none : (list : List ℕ) → length list ≡ 256 → Members (replicate 255 false) list 0
members_none list room = members_empty (replicate 255 false) list (length-replicate 255 false) room (has_none 255)

-- what is marked in a set of no member
pub only_marked : {before after : List Bool} (P : ℕ → Type 0) → IsEmpty before → Marks P before after → (u : ℕ) → Has after u → P u
only_marked {before = before} P none m u h = by (m.only u h)
  where
    by : Has before u ⊎ P u → P u
    by (inl z) = absurd (none u z)
    by (inr p) = p

-- what is on a list of the members is a member
pub lists_has : {s : List Bool} {list : List ℕ} → Lists s list → (u : ℕ) → Listed list (length list) u → Has s u
lists_has {s = s} lists u (k, h, e) = subst (Has s) e (lists.has k h)

-- a truth value as a number
pub one_if : (b : Bool) → from_bool b ≡ cond b 1 0
one_if true = refl
one_if false = refl

module _ {s : List Bool} {list : List ℕ} {n : ℕ} (members : Members s list n) where
  pub members_most : n ≤ 255
  members_most = let t = trues_most s in let z = members.size in let m = members.number in omega arith

  -- no member, where there are none
  pub members_none_left : n ≡ 0 → IsEmpty s
  members_none_left e u h = let l = (members.all u h).1 in absurd (omega arith)

  -- the members, as a list of their own
  pub members_list : Lists s (take n list)
  members_list =
      let high = members_most in
      let room = members.room in
      let long : length (take n list) ≡ n = length-take-le n list (omega arith) in
      record {
        number = long ∙ members.number;
        has = λ k h. let l : k < n = omega arith in subst (Has s) (sym (get_or-take n list k 0 l)) (members.has k l);
        all = λ u h. listed u (members.all u h) long;
      }
    where
      listed : (u : ℕ) → Listed list n u → length (take n list) ≡ n → Listed (take n list) (length (take n list)) u
      listed u (k, h, e) long = (k, omega arith, get_or-take n list k 0 h ∙ e)

  pub listed_has : (u : ℕ) → Listed list n u → Has s u
  listed_has u (k, h, e) = subst (Has s) e (members.has k h)

  pub listed_low : (k : ℕ) → k < n → get_or list k 0 < 255
  listed_low k h = let l = has_inside s (get_or list k 0) (members.has k h) in let z = members.size in omega arith

  -- a number written after the last member changes nothing
  members_same : (x : ℕ) → Members s (put list n x) n
  members_same x =
      record {
        size = members.size;
        room = length-set list n x ∙ members.room;
        number = members.number;
        has = λ k h. subst (Has s) (sym (earlier k h)) (members.has k h);
        all = λ u h. listed u (members.all u h);
      }
    where
      earlier : (k : ℕ) → k < n → get_or (put list n x) k 0 ≡ get_or list k 0
      earlier k h = get_or-set_other list n k x 0 (λ e. omega arith)

      listed : (u : ℕ) → Listed list n u → Listed (put list n x) n u
      listed u (k, h, e) = (k, h, earlier k h ∙ e)

  -- One member more.
  module _ (u : ℕ) (inside : u < 255) (absent : get_or s u false ≡ false) where
    within : u < length s
    within = let z = members.size in omega arith

    -- there is room for it in the list
    members_room : n < 255
    members_room = let t = trues_fewer s u within absent in let z = members.size in let m = members.number in omega arith

    marks_absent : Marks (Just u) s (put s u true)
    marks_absent = marks_one u s within

    last : get_or (put list n u) n 0 ≡ u
    last = get_or-set_same list n u 0 (let r = members.room in let f = members_room in omega arith)

    earlier : (k : ℕ) → k < n → get_or (put list n u) k 0 ≡ get_or list k 0
    earlier k h = get_or-set_other list n k u 0 (λ e. omega arith)

    pub members_more : Members (put s u true) (put list n u) (n + 1)
    members_more =
        record {
          size = length-set s u true ∙ members.size;
          room = length-set list n u ∙ members.room;
          number = ap (λ m. m + 1) members.number ∙ sym (trues_put s u within absent);
          has = λ k h. has k h (eq_or_ne k n);
          all = λ w h. all w (marks_absent.only w h);
        }
      where
        has : (k : ℕ) → k < n + 1 → (k ≡ n) ⊎ (k ≡ n → ⊥) → Has (put s u true) (get_or (put list n u) k 0)
        has k h (inl e) = marks_absent.marked (get_or (put list n u) k 0) (ap (λ m. get_or (put list n u) m 0) e ∙ last)
        has k h (inr d) =
            let l : k < n = omega arith in
            marks_absent.kept (get_or (put list n u) k 0) (subst (Has s) (sym (earlier k l)) (members.has k l))

        listed : (w : ℕ) → Listed list n w → Listed (put list n u) (n + 1) w
        listed w (k, h, e) = (k, omega arith, earlier k h ∙ e)

        all : (w : ℕ) → Has s w ⊎ Just u w → Listed (put list n u) (n + 1) w
        all w (inl h) = listed w (members.all w h)
        all w (inr e) = (n, omega arith, last ∙ sym e)

-- A state put if it fits; `there` says if the set has it already.

module _ (s : List Bool) (u : ℕ) where
  put_same : (there : Bool) → get_or s u false ≡ there → put s u there ≡ s
  put_same there e = ap (put s u) (sym e) ∙ set-get_or s u false

  pub marks_put : u < length s → (fits there : Bool) → get_or s u false ≡ there → Marks (JustIf fits u) s (put s u (there || fits))
  marks_put within fits there e = by fits there e
    where
      fit : Marks (JustIf true u) s (put s u true)
      fit = marks_same (Just u) (JustIf true u) s (put s u true) (λ k e. (refl, e)) (λ k q. q.1) (marks_one u s within)

      unfit : (there : Bool) → get_or s u false ≡ there → Marks (JustIf false u) s (put s u there)
      unfit there e =
          subst (Marks (JustIf false u) s) (sym (put_same there e)) (marks_none (JustIf false u) s (λ k q. false≢true q.0))

      by : (fits there : Bool) → get_or s u false ≡ there → Marks (JustIf fits u) s (put s u (there || fits))
      by true true e = fit
      by true false e = fit
      by false true e = unfit true e
      by false false e = unfit false e

  pub members_put :
      {list : List ℕ} {n : ℕ} → Members s list n → u < 255 → (fits there : Bool) → get_or s u false ≡ there
      → Members (put s u (there || fits)) (put list n u) (n + cond (fits && not there) 1 0)
  members_put {list = list} {n = n} members inside fits there e = by fits there e
    where
      as_it_was : (there : Bool) → get_or s u false ≡ there → Members (put s u there) (put list n u) (n + 0)
      as_it_was there e =
          let z : n ≡ n + 0 = omega arith in
          subst (λ t. Members t (put list n u) (n + 0)) (sym (put_same there e)) (subst (Members s (put list n u)) z (members_same members u))

      by : (fits there : Bool) → get_or s u false ≡ there → Members (put s u (there || fits)) (put list n u) (n + cond (fits && not there) 1 0)
      by true false e = members_more members u inside e
      by true true e = as_it_was true e
      by false true e = as_it_was true e
      by false false e = as_it_was false e
