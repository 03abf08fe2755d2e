-- The twelve classes: their members among all bytes, and names that are known or not.
use Rattle.std.specs.Prelude.{◌≡◌, refl, List, [], ◌∷◌, ◌++◌, map, ℕ}
use Rattle.std.proofs.Math.Option.{none}
use Prim.Native.String.{String}
use Rattle.lists.specs.Lists.{keep, numbers}
use Rattle.lists.specs.Options.{listed}
use Rattle.text.specs.Bytes.{bytes}
use Rattle.regex_tree.specs.Tree.{among}
use Rattle.regex_tree.specs.Classes.{classes, look_up, class_ranges}

-- the bytes 0 to 255 that are in the class
has : String → List ℕ
unfolding class_ranges
has n = keep (among (listed (class_ranges (bytes n)))) (numbers 0 256)

record Examples : Type 0 where
  alnum : has "alnum" ≡ bytes "0123456789ABCDEFGHIJKLMNOPQRSTUVWXYZabcdefghijklmnopqrstuvwxyz"
  alpha : has "alpha" ≡ bytes "ABCDEFGHIJKLMNOPQRSTUVWXYZabcdefghijklmnopqrstuvwxyz"
  blank : has "blank" ≡ 9 ∷ 32 ∷ []
  cntrl : has "cntrl" ≡ numbers 0 32 ++ (127 ∷ [])
  digit : has "digit" ≡ bytes "0123456789"
  graph : has "graph" ≡ numbers 33 94
  lower : has "lower" ≡ bytes "abcdefghijklmnopqrstuvwxyz"
  print : has "print" ≡ numbers 32 95
  punct : has "punct" ≡ bytes "!\"#$%&'()*+,-./:;<=>?@[\\]^_`{|}~"
  space : has "space" ≡ 9 ∷ 10 ∷ 11 ∷ 12 ∷ 13 ∷ 32 ∷ []
  upper : has "upper" ≡ bytes "ABCDEFGHIJKLMNOPQRSTUVWXYZ"
  xdigit : has "xdigit" ≡ bytes "0123456789ABCDEFabcdef"
  -- no other names
  names :
      map (λ c. c.0) classes
      ≡ map bytes ("alnum" ∷ "alpha" ∷ "blank" ∷ "cntrl" ∷ "digit" ∷ "graph" ∷ "lower" ∷ "print" ∷ "punct" ∷ "space" ∷ "upper" ∷ "xdigit" ∷ [])
  unknown : map (λ n. class_ranges (bytes n)) ("" ∷ "word" ∷ "Alpha" ∷ "alph" ∷ "alphaa" ∷ " alpha" ∷ []) ≡ none ∷ none ∷ none ∷ none ∷ none ∷ none ∷ []

examples : Examples
unfolding has keep numbers classes look_up class_ranges
examples = record {
  alnum = refl;
  alpha = refl;
  blank = refl;
  cntrl = refl;
  digit = refl;
  graph = refl;
  lower = refl;
  print = refl;
  punct = refl;
  space = refl;
  upper = refl;
  xdigit = refl;
  names = refl;
  unknown = refl;
}
