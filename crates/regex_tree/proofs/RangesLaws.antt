-- The ranges of a bracket's items: they are known exactly if each item's are, and a byte is in them exactly if it is in one item's.
use Rattle.std.specs.Prelude.{◌≡◌, refl, List, [], ◌∷◌, ◌++◌, true, ◌&&◌, ◌||◌, ℕ}
use Rattle.std.proofs.Common.{sym, ap, ◌∙◌, arith}
use Rattle.std.proofs.Math.Option.{Option, some, none}
use Rattle.std.proofs.Math.Bool.{or_assoc}
use Rattle.lists.specs.Each.{all}
use Rattle.lists.specs.Lists.{any}
use Rattle.lists.specs.Options.{is_some, listed}
use Rattle.lists.proofs.OrderLaws.{and_right}
use Rattle.regex_tree.specs.Tree.{Range, within, among}
use Rattle.regex_tree.specs.Sets.{Item, item_ranges, together, ranges_of}

pub among_append : (rs ss : List Range) (b : ℕ) → among (rs ++ ss) b ≡ (among rs b || among ss b)
among_append [] ss b = refl
among_append (r ∷ rs) ss b = ap (λ t. within r b || t) (among_append rs ss b) ∙ sym (or_assoc (within r b) (among rs b) (among ss b))

pub together_known : (x y : Option (List Range)) → is_some (together x y) ≡ (is_some x && is_some y)
together_known none y = refl
together_known (some rs) none = refl
together_known (some rs) (some ss) = refl

pub together_among :
    (x y : Option (List Range)) (b : ℕ) → is_some (together x y) ≡ true → among (listed (together x y)) b ≡ (among (listed x) b || among (listed y) b)
together_among none y b e = let z : ◌≡◌ {A = ℕ} 0 1 = cc in absurd (omega arith)
together_among (some rs) none b e = let z : ◌≡◌ {A = ℕ} 0 1 = cc in absurd (omega arith)
together_among (some rs) (some ss) b e = among_append rs ss b

-- they are known exactly if each item's are
pub ranges_known : (is : List Item) → is_some (ranges_of is) ≡ all (λ i. is_some (item_ranges i)) is
unfolding ranges_of
ranges_known [] = refl
ranges_known (i ∷ is) = together_known (item_ranges i) (ranges_of is) ∙ ap (λ t. is_some (item_ranges i) && t) (ranges_known is)

-- and then a byte is in them exactly if it is in one item's
pub ranges_among :
    (is : List Item) (b : ℕ) → is_some (ranges_of is) ≡ true → among (listed (ranges_of is)) b ≡ any (λ i. among (listed (item_ranges i)) b) is
unfolding ranges_of
ranges_among [] b e = refl
ranges_among (i ∷ is) b e =
    together_among (item_ranges i) (ranges_of is) b e
    ∙ ap (λ t. among (listed (item_ranges i)) b || t)
    (ranges_among is b (and_right (is_some (item_ranges i)) (is_some (ranges_of is)) (sym (together_known (item_ranges i) (ranges_of is)) ∙ e)))
