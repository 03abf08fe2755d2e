-- Laws of prefixes: when two are the same, which occur, and that each is kept once.
use Rattle.std.specs.Prelude.{ℕ, ◌≡◌, refl, Bool, true, false, cond, not, ◌||◌, ◌⊎◌, ◌↔◌, eqb}
use Rattle.std.proofs.Common.{sym, ap, ap₂, subst, ◌∙◌, inl, inr, ⊎_elim, eqb-true, eq-eqb}
use mathlib.Core.List.{List, [], ◌∷◌, ◌++◌, flat_map, append_assoc, append-nil}
use Rattle.lists.specs.Lists.{Among, any, keep, keeping, same_list, Distinct}
use Rattle.lists.proofs.AmongLaws.{among_each, among_keep, keep_among, keep_append, among_flat, flat_among}
use Rattle.lists.proofs.DistinctLaws.{distinct_keep}
use Rattle.lists.proofs.OrderLaws.{true_or_false, not_both, and_left, and_right, and_both}
use Rattle.lists.proofs.SameLaws.{same_list_true, same_list_self}
use Rattle.wordlist.specs.PrefixTree.{Prefix, whole, same_prefix, prefixes_from, prefixes, once, prefixes_of}

pub same_prefix_true : (p q : Prefix) → same_prefix p q ≡ true → p ≡ q
same_prefix_true p q e =
    let b = same_list p.before q.before in
    let c = eqb p.character q.character in
    ap₂ (λ u a. record { before = u; character = a }) (same_list_true p.before q.before (and_left b c e))
    (eqb-true p.character q.character (and_right b c e))

pub same_prefix_self : (p : Prefix) → same_prefix p p ≡ true
same_prefix_self p =
    and_both (same_list p.before p.before) (eqb p.character p.character) (same_list_self p.before) (eq-eqb p.character p.character refl)

-- each prefix of a word occurs
pub among_prefixes : (u v w : List ℕ) (c : ℕ) → Among (record { before = u ++ v; character = c }) (prefixes_from u (v ++ (c ∷ w)))
unfolding prefixes_from
among_prefixes u [] w c = inl (ap (λ l. record { before = l; character = c }) (append-nil u))
among_prefixes u (b ∷ v) w c =
    inr (subst (λ l. Among (record { before = l; character = c }) (prefixes_from (u ++ (b ∷ [])) (v ++ (c ∷ w)))) (append_assoc u (b ∷ []) v) (among_prefixes (u ++ (b ∷ [])) v w c))

-- and nothing else does
prefixes_among : (p : Prefix) (u w : List ℕ) → Among p (prefixes_from u w) → (v : List ℕ) × (u ++ w ≡ whole p ++ v)
unfolding prefixes_from
prefixes_among p u [] m = absurd m
prefixes_among p u (c ∷ w) (inl e) =
    (w, sym (append_assoc u (c ∷ []) w) ∙ ap (λ (q : Prefix). whole q ++ w) (sym e))
prefixes_among p u (c ∷ w) (inr m) =
    let r = prefixes_among p (u ++ (c ∷ [])) w m in (r.0, sym (append_assoc u (c ∷ []) w) ∙ r.1)

pub prefixes_exactly : (p : Prefix) (w : List ℕ) → Among p (prefixes w) ↔ ((v : List ℕ) × (w ≡ whole p ++ v))
prefixes_exactly p w = (
  prefixes_among p [] w,
  λ h.
      subst (λ l. Among p (prefixes l)) (sym (h.1 ∙ append_assoc p.before (p.character ∷ []) h.0))
      (among_prefixes [] p.before h.0 p.character),
)

-- one character more
pub prefixes_more : (u v : List ℕ) (c : ℕ) → prefixes_from u (v ++ (c ∷ [])) ≡ prefixes_from u v ++ (record { before = u ++ v; character = c } ∷ [])
unfolding prefixes_from
prefixes_more u [] c = ap (λ l. record { before = l; character = c } ∷ []) (sym (append-nil u))
prefixes_more u (b ∷ v) c =
    ap (◌∷◌ (record { before = u; character = b }))
    (prefixes_more (u ++ (b ∷ [])) v c ∙ ap (λ l. prefixes_from (u ++ (b ∷ [])) v ++ (record { before = l; character = c } ∷ [])) (append_assoc u (b ∷ []) v))

-- What occurs is kept, and nothing else is.
pub among_once : (q : Prefix) (ps : List Prefix) → Among q ps → Among q (once ps)
unfolding once
among_once q [] h = absurd h
among_once q (p ∷ ps) (inl e) = inl e
among_once q (p ∷ ps) (inr h) =
    ⊎_elim (λ e. inl (sym (same_prefix_true p q e))) (λ e. inr (among_keep (λ r. not (same_prefix p r)) q (once ps) (among_once q ps h) (ap not e)))
    (true_or_false (same_prefix p q))

pub once_among : (q : Prefix) (ps : List Prefix) → Among q (once ps) → Among q ps
unfolding once
once_among q [] h = absurd h
once_among q (p ∷ ps) (inl e) = inl e
once_among q (p ∷ ps) (inr h) = inr (once_among q ps (keep_among (λ r. not (same_prefix p r)) q (once ps) h).0)

-- The prefixes of a list are those of its words.
pub prefixes_of_exactly : (p : Prefix) (ws : List (List ℕ)) → Among p (prefixes_of ws) ↔ ((v : List ℕ) × Among (whole p ++ v) ws)
prefixes_of_exactly p ws = (
  λ m.
      let r = flat_among prefixes p ws (once_among p (flat_map prefixes ws) m) in
      let k = (prefixes_exactly p r.0).0 r.2 in
      (k.0, subst (λ l. Among l ws) k.1 r.1),
  λ h.
      among_once p (flat_map prefixes ws)
      (among_flat prefixes (whole p ++ h.0) p ws h.1 ((prefixes_exactly p (whole p ++ h.0)).1 (h.0, refl))),
)

-- no prefix is kept twice
pub once_distinct : (ps : List Prefix) → Distinct (once ps)
unfolding once
once_distinct [] = tt
once_distinct (p ∷ ps) = (
  among_each (λ q. p ≡ q → ⊥) (keep (λ r. not (same_prefix p r)) (once ps))
      (λ q h e.
      not_both (not (same_prefix p q)) (keep_among (λ r. not (same_prefix p r)) q (once ps) h).1
      (ap not (subst (λ r. same_prefix p r ≡ true) e (same_prefix_self p)))),
  distinct_keep (λ r. not (same_prefix p r)) (once ps) (once_distinct ps),
)

-- a prefix has occurred
abbrev pub occurs : Prefix → List Prefix → Bool
occurs q ps = any (λ p. same_prefix p q) ps

-- One prefix more comes last if it has not occurred, and otherwise changes nothing: they are in the order of their first places.
pub once_more : (q : Prefix) (ps : List Prefix) → once (ps ++ (q ∷ [])) ≡ cond (occurs q ps) (once ps) (once ps ++ (q ∷ []))
unfolding once keep
once_more q [] = refl
once_more q (p ∷ ps) = ap (λ l. p ∷ keep others l) (once_more q ps) ∙ by (occurs q ps) (same_prefix p q) refl
  where
    others : Prefix → Bool
    others r = not (same_prefix p r)

    last : (t : Bool) → same_prefix p q ≡ t → keep others (once ps ++ (q ∷ [])) ≡ keep others (once ps) ++ keeping (not t) q []
    last t e = keep_append others (once ps) (q ∷ []) ∙ ap (λ b. keep others (once ps) ++ keeping (not b) q []) e

    by :
        (b t : Bool) → same_prefix p q ≡ t
        → p ∷ keep others (cond b (once ps) (once ps ++ (q ∷ []))) ≡ cond (t || b) (p ∷ keep others (once ps)) ((p ∷ keep others (once ps)) ++ (q ∷ []))
    by true true e = refl
    by true false e = refl
    by false true e = ap (λ l. p ∷ l) (last true e ∙ append-nil (keep others (once ps)))
    by false false e = ap (λ l. p ∷ l) (last false e)

-- More prefixes at the end leave the others where they are.
pub once_longer : (qs ps : List Prefix) → (new : List Prefix) × (once (ps ++ qs) ≡ once ps ++ new)
once_longer [] ps = ([], ap once (append-nil ps) ∙ sym (append-nil (once ps)))
once_longer (q ∷ qs) ps = by (occurs q ps) (once_more q ps) (once_longer qs (ps ++ (q ∷ [])))
  where
    regrouped : once (ps ++ (q ∷ qs)) ≡ once ((ps ++ (q ∷ [])) ++ qs)
    regrouped = ap once (sym (append_assoc ps (q ∷ []) qs))

    by :
        (t : Bool) → once (ps ++ (q ∷ [])) ≡ cond t (once ps) (once ps ++ (q ∷ []))
        → ((new : List Prefix) × (once ((ps ++ (q ∷ [])) ++ qs) ≡ once (ps ++ (q ∷ [])) ++ new)) → (new : List Prefix) × (once (ps ++ (q ∷ qs)) ≡ once ps ++ new)
    by true e r = (r.0, regrouped ∙ r.1 ∙ ap (λ l. l ++ r.0) e)
    by false e r = (q ∷ r.0, regrouped ∙ r.1 ∙ ap (λ l. l ++ r.0) e ∙ append_assoc (once ps) (q ∷ []) r.0)
