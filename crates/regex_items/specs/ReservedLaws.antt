-- `[.` or `[=` inside a bracket: at an index, or further on.
use Rattle.std.specs.Prelude.{◌≡◌, refl, List, true, false, ◌&&◌, ◌||◌, ℕ, ◌+◌, ◌≤◌, ◌<◌, length, get_or, drop}
use Rattle.std.proofs.Common.{sym, ◌∙◌, eq-eqb, ne_eqb}
use Rattle.std.proofs.Math.Path.{ap}
use Prim.Native.Char.{code}
use Rattle.std.proofs.Math.Dec.{eqb}
use Rattle.lists.proofs.EachLaws.{drop_here, drop_all}
use Rattle.text.specs.Bytes.{bytes}
use Rattle.text.specs.Text.{one_of}
use Rattle.text.proofs.TextLaws.{next_of_at}
use Rattle.regex_tree.specs.Sets.{reserved}
use Rattle.regex_items.specs.Items.{reserves}

module _ (inside : List ℕ) (i : ℕ) where
  reserves_first : i < length inside → reserves (drop i inside) ≡ (eqb (get_or inside i 0) (code "[") && one_of (bytes ".=") (get_or inside (i + 1) 0))
  unfolding reserves
  reserves_first l =
      ap reserves (drop_here 0 inside i l)
      ∙ ap (λ t. eqb (get_or inside i 0) (code "[") && t) (next_of_at (bytes ".=") inside (i + 1) refl)

  pub reserves_not : i < length inside → (get_or inside i 0 ≡ code "[" → ⊥) → false ≡ reserves (drop i inside)
  reserves_not l e =
      sym (reserves_first l ∙ ap (λ t. t && one_of (bytes ".=") (get_or inside (i + 1) 0)) (ne_eqb (get_or inside i 0) (code "[") e))

  pub reserves_by : i < length inside → get_or inside i 0 ≡ code "[" → one_of (bytes ".=") (get_or inside (i + 1) 0) ≡ reserves (drop i inside)
  reserves_by l e =
      sym (reserves_first l ∙ ap (λ t. t && one_of (bytes ".=") (get_or inside (i + 1) 0)) (eq-eqb (get_or inside i 0) (code "[") e))

  reserves_or : i < length inside → reserved (drop i inside) ≡ (reserves (drop i inside) || reserved (drop (i + 1) inside))
  unfolding reserved reserves
  reserves_or l = rw (drop_here 0 inside i l, reserved, reserves)

  pub reserved_here : i < length inside → reserves (drop i inside) ≡ true → reserved (drop i inside) ≡ true
  reserved_here l e = reserves_or l ∙ rw e

  pub reserved_more : i < length inside → reserves (drop i inside) ≡ false → reserved (drop i inside) ≡ reserved (drop (i + 1) inside)
  reserved_more l e = reserves_or l ∙ rw e

  pub reserved_end : length inside ≤ i → reserved (drop i inside) ≡ false
  unfolding reserved
  reserved_end l = rw (drop_all inside i l, reserved)
