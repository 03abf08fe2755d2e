-- Members taken out of a set one by one, in the order of the list.
use Rattle.std.specs.Prelude.{ℕ, ◌+◌, ◌≤◌, ◌<◌, ◌≡◌, refl, Bool, false, ◌⊎◌, List, length, get_or, take, set as put}
use Rattle.std.proofs.Common.{sym, ap, ◌∙◌, inl, inr, arith, length-set, get_or-set_same, get_or-set_other}
use Rattle.std.proofs.lemmas.Bool.{false≢true}
use Rattle.lists.proofs.OrderLaws.{eq_or_ne}
use Rattle.lists.specs.Marks.{Has, Listed}
use Rattle.trellis_members.specs.Members.{Members}
use Rattle.trellis_members.specs.MembersLaws.{members_empty, members_list}

-- the first k elements of the list were taken out of the set
pub record TakenOut (list : List ℕ) (k : ℕ) (before after : List Bool) : Type 0 where
  pub size : length after ≡ length before
  pub left : (u : ℕ) → Has after u → Has before u × (Listed list k u → ⊥)

pub taken_none : (list : List ℕ) (s : List Bool) → TakenOut list 0 s s
taken_none list s = record { size = refl; left = λ u h. (h, λ l. let z = l.1 in omega arith) }

module _ {list : List ℕ} {k : ℕ} {before after : List Bool} (taken : TakenOut list k before after) where
  pub taken_more : get_or list k 0 < length before → TakenOut list (k + 1) before (put after (get_or list k 0) false)
  taken_more inside =
      record {
        size = length-set after (get_or list k 0) false ∙ taken.size;
        left = λ u h. left u h (eq_or_ne u (get_or list k 0));
      }
    where
      out : get_or (put after (get_or list k 0) false) (get_or list k 0) false ≡ false
      out = get_or-set_same after (get_or list k 0) false false (let z = taken.size in omega arith)

      earlier : (u : ℕ) → (u ≡ get_or list k 0 → ⊥) → Listed list (k + 1) u → Listed list k u
      earlier u d (i, h, e) = by (eq_or_ne i k)
        where
          by : (i ≡ k) ⊎ (i ≡ k → ⊥) → Listed list k u
          by (inl z) = absurd (d (sym (sym (ap (λ m. get_or list m 0) z) ∙ e)))
          by (inr z) = (i, omega arith, e)

      left :
          (u : ℕ) → Has (put after (get_or list k 0) false) u → (u ≡ get_or list k 0) ⊎ (u ≡ get_or list k 0 → ⊥)
          → Has before u × (Listed list (k + 1) u → ⊥)
      left u h (inl e) = absurd (false≢true (sym out ∙ sym (ap (λ m. get_or (put after (get_or list k 0) false) m false) e) ∙ h))
      left u h (inr d) =
          let t = taken.left u (sym (get_or-set_other after (get_or list k 0) u false false d) ∙ h) in
          (t.0, λ l. t.1 (earlier u d l))

pub taken_all : {list : List ℕ} {n : ℕ} {before after : List Bool} → Members before list n → TakenOut list n before after → Members after list 0
taken_all {list = list} {after = after} members taken =
    members_empty after list (taken.size ∙ members.size) members.room (λ u h. let t = taken.left u h in t.1 (members.all u t.0))

-- the same of the list of the members alone
pub taken_members :
    {list : List ℕ} {n k : ℕ} {before after : List Bool} → Members before list n → TakenOut (take n list) k before after
    → length (take n list) ≤ k → Members after list 0
taken_members {list = list} {n = n} {after = after} members taken end =
    members_empty after list (taken.size ∙ members.size) members.room
    (λ u h. let t = taken.left u h in let l = (members_list members).all u t.0 in t.1 (l.0, (let i = l.1 in omega arith), l.2))
