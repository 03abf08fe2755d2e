-- How the arrays of parts that are put together show the letters of the whole, and the room that the parts need. Index i stands for letter
-- i + 1.
use Rattle.std.specs.Prelude.{ℕ, suc, ◌+◌, ◌≤◌, ◌≡◌, refl, Bool, List}
use Rattle.std.proofs.Common.{ap, subst, ◌∙◌, arith}
use Rattle.std.proofs.Math.Path.{ap₂}
use Rattle.std.proofs.Math.Bool.{true, false, ◌&&◌, ◌||◌, or_assoc, or-false}
use Rattle.std.proofs.Math.ListN.{length}
use Rattle.lists.proofs.WrittenLaws.{stored_then, stored_size}
use Rattle.lists.specs.Stored.{Stored}
use Rattle.positions_follow.specs.Sets.{member, arc, Linked}
use Rattle.positions.specs.Opened.{Opened, joining, alternation, labels}
use Rattle.positions.specs.Numbered.{Positions, joint, choice, again, numbered}
use Rattle.positions.proofs.EquationsLaws.{Same}
use Rattle.positions_parts.specs.Together.{United, Chosen, Joined, Looped, Spared}
use Rattle.positions_parts.specs.declared.Built.{Built}
use Rattle.positions_letters.specs.Shows.{Shows, Builds}
use Rattle.positions_build.specs.CopiesLaws.{spared, looped, Alike}
use Rattle.positions_build.specs.Places.{Room}

-- Parts put together show the positions of the whole.
module _ (f g : List (List Bool)) where
  pub shows_same : (p q : Positions) (x : Built) → Same p q → Shows p x f g → Shows q x f g
  shows_same p q x s h =
      record {
        nullable = h.nullable ∙ s.nullable;
        first = λ i. h.first i ∙ s.first (suc i);
        last = λ i. h.last i ∙ s.last (suc i);
        size = h.size;
        arcs = λ i j. h.arcs i j ∙ ap (λ t. arc f i j || t) (s.follow (suc i) (suc j));
      }

  module _ (p : Positions) (a : Built) (u : Shows p a f g) where
    module _ (q : Positions) (b x : Built) (h : List (List Bool)) (v : Shows q b g h) where
      both_arcs : (i j : ℕ) → arc h i j ≡ (arc f i j || (p.follow (suc i) (suc j) || q.follow (suc i) (suc j)))
      both_arcs i j =
          v.arcs i j ∙ ap (λ t. t || q.follow (suc i) (suc j)) (u.arcs i j)
          ∙ or_assoc (arc f i j) (p.follow (suc i) (suc j)) (q.follow (suc i) (suc j))

      shows_choice : Chosen a b x → Shows (choice p q) x f h
      unfolding United
      shows_choice o =
          record {
            nullable = o.nullable ∙ ap₂ ◌||◌ u.nullable v.nullable;
            first = λ i. o.first i ∙ ap₂ ◌||◌ (u.first i) (v.first i);
            last = λ i. o.last i ∙ ap₂ ◌||◌ (u.last i) (v.last i);
            size = v.size ∙ u.size;
            arcs = both_arcs;
          }

      shows_joint : (k : List (List Bool)) → Joined a b x h k → Shows (joint p q) x f k
      unfolding United
      shows_joint k o =
          record {
            nullable = o.nullable ∙ ap₂ ◌&&◌ u.nullable v.nullable;
            first = λ i. o.first i ∙ ap₂ ◌||◌ (u.first i) (ap₂ ◌&&◌ u.nullable (v.first i));
            last = λ i. o.last i ∙ ap₂ ◌||◌ (v.last i) (ap₂ ◌&&◌ v.nullable (u.last i));
            size = o.arcs.size ∙ v.size ∙ u.size;
            arcs = λ i j.
                o.arcs.at i j
                ∙ ap₂ ◌||◌ (both_arcs i j) (ap₂ ◌&&◌ (u.last i) (v.first j))
                ∙ or_assoc (arc f i j) (p.follow (suc i) (suc j) || q.follow (suc i) (suc j)) (p.last (suc i) && q.first (suc j));
          }

    shows_again : (h : List (List Bool)) → Linked a.last a.first g h → Shows (again p) a f h
    shows_again h o =
        record {
          nullable = u.nullable;
          first = u.first;
          last = u.last;
          size = o.size ∙ u.size;
          arcs = λ i j.
              o.at i j ∙ ap₂ ◌||◌ (u.arcs i j) (ap₂ ◌&&◌ (u.last i) (u.first j))
              ∙ or_assoc (arc f i j) (p.follow (suc i) (suc j)) (p.last (suc i) && p.first (suc j));
        }

    -- the same letters, though the empty word may have been added
    shows_spared :
        (q : Bool) (x : Built) (e : ℕ) (s : Bool) → Spared a s e x → (s || p.nullable) ≡ q
        → Shows (record { nullable = q; first = p.first; last = p.last; follow = p.follow }) x f g
    shows_spared q x e s o z =
        record {
          nullable = o.nullable ∙ ap (λ t. s || t) u.nullable ∙ z;
          first = λ i. ap (λ l. member l i) o.first ∙ u.first i;
          last = λ i. ap (λ l. member l i) o.last ∙ u.last i;
          size = u.size;
          arcs = u.arcs;
        }

-- The same for expressions that were built.
pub builds_alike :
    {n : ℕ} {r s : Opened} {e : ℕ} {f g : List (List Bool)} {old new : List ℕ} {x : Built} → Alike r s → Builds n r e f g old new x → Builds n s e f g old new x
builds_alike {n} {r} {s} {e} {f} {g} {old} {new} {x} h b =
    record {
      ends = b.ends;
      stored = subst (λ l. Stored l n old new x.letters) h.labelled b.stored;
      shows = shows_same f g (numbered (suc n) r) (numbered (suc n) s) x (h.numbers (suc n)) b.shows;
    }

module _ {n : ℕ} {r : Opened} {e : ℕ} {f g : List (List Bool)} {old mid : List ℕ} {a : Built} (u : Builds n r e f g old mid a) where
  module _ {s : Opened} {e₁ : ℕ} {h : List (List Bool)} {new : List ℕ} {b : Built} (v : Builds a.letters s e₁ g h mid new b) where
    beyond : Shows (numbered (suc n + length (labels r)) s) b g h
    beyond =
        let k = u.stored.next in
        let z : suc a.letters ≡ suc n + length (labels r) = omega arith in
        subst (λ i. Shows (numbered i s) b g h) z v.shows

    pub builds_alternation : {x : Built} → Chosen a b x → Builds n (alternation r s) e₁ f h old new x
    unfolding labels numbered
    builds_alternation {x} o =
        record {
          ends = o.ends ∙ v.ends;
          stored = rw o.counts (stored_then u.stored v.stored);
          shows = shows_choice f g (numbered (suc n) r) a u.shows (numbered (suc n + length (labels r)) s) b x h beyond o;
        }

    pub builds_joining : {x : Built} {k : List (List Bool)} → Joined a b x h k → Builds n (joining r s) e₁ f k old new x
    unfolding labels numbered
    builds_joining {x} {k} o =
        record {
          ends = o.ends ∙ v.ends;
          stored = rw o.counts (stored_then u.stored v.stored);
          shows = shows_joint f g (numbered (suc n) r) a u.shows (numbered (suc n + length (labels r)) s) b x h beyond k o;
        }

  pub builds_spared : (s : Bool) {x : Built} {e₁ : ℕ} → Spared a s e₁ x → Builds n (spared s r) e₁ f g old mid x
  unfolding labels numbered spared
  builds_spared true {x} {e₁} o =
      record {
        ends = o.ends;
        stored = rw o.counts u.stored;
        shows = shows_spared f g (numbered (suc n) r) a u.shows true x e₁ true o refl;
      }
  builds_spared false {x} {e₁} o =
      record {
        ends = o.ends;
        stored = rw o.counts u.stored;
        shows = shows_spared f g (numbered (suc n) r) a u.shows (numbered (suc n) r).nullable x e₁ false o refl;
      }

  pub builds_looped : (on : Bool) {h : List (List Bool)} → Looped on a.last a.first g h → Builds n (looped on r) e f h old mid a
  unfolding labels numbered looped
  builds_looped true {h} o =
      record {
        ends = u.ends;
        stored = u.stored;
        shows = shows_again f g (numbered (suc n) r) a u.shows h (record { size = o.size; at = o.arcs });
      }
  builds_looped false {h} o =
      record {
        ends = u.ends;
        stored = u.stored;
        shows =
            record {
              nullable = u.shows.nullable;
              first = u.shows.first;
              last = u.shows.last;
              size = o.size ∙ u.shows.size;
              arcs = λ i j. o.arcs i j ∙ or-false (arc g i j) ∙ u.shows.arcs i j;
            };
      }

-- Room for a part, and for what follows it.
pub room_first :
    {A : List ℕ} {r : Opened} {n : ℕ} {marks : List ℕ} {f : List (List Bool)} (s : Opened) → length (labels s) ≤ length (labels r) → Room A r n marks f
    → Room A s n marks f
room_first s l o = let k = o.few in record { alphabet = o.alphabet; few = omega arith; labelled = o.labelled; followers = o.followers }

pub room_next :
    {A : List ℕ} {r s t : Opened} {n e : ℕ} {old new : List ℕ} {f g : List (List Bool)} {a : Built}
    → length (labels r) ≡ length (labels s) + length (labels t) → Room A r n old f → Builds n s e f g old new a → Room A t a.letters new g
room_next l o b =
    let k = o.few in
    let c = b.stored.next in
    let x = stored_size b.stored in
    let y = b.shows.size in
    let p = o.labelled in
    let q = o.followers in
    record { alphabet = o.alphabet; few = omega arith; labelled = omega arith; followers = omega arith }
