-- The test of the table, carried to each row, and to the row that is found.
use Rattle.std.specs.Prelude.{◌≡◌, List, [], ◌∷◌, Bool, true, false, ◌&&◌, ℕ, Some, cond, length, leb}
use Rattle.std.specs.List.{find}
use Rattle.std.specs.Str.{bytes_eq}
use Rattle.std.proofs.Math.Path.{refl, ap}
use Rattle.std.proofs.Common.{sym, ◌∙◌, arith, leb-true}
use Rattle.lists.specs.Each.{all}
use Rattle.std.proofs.Math.Option.{some}
use Rattle.lists.proofs.EachLaws.{all_each}
use Rattle.lists.proofs.AmongLaws.{each_among}
use Rattle.lists.proofs.AscendingLaws.{among_numbers}
use Rattle.lists.proofs.OrderLaws.{and_left, and_right}
use Rattle.lists.proofs.SameLaws.{same_list_true}
use Rattle.lists.specs.Lists.{same_list, numbers}
use Rattle.regex_tree.specs.Tree.{Range, among}
use Rattle.regex_tree.specs.Classes.{classes, look_up, class_ranges}
use Rattle.regex_classes.specs.declared.table.Class.{Class}
use Rattle.regex_classes.specs.Table.{class_among, row_of, Row, equal, is_row, agrees, Looked}

equal_true : (a b : Bool) → equal a b ≡ true → a ≡ b
equal_true true b e = sym e
equal_true false true e = e
equal_true false false e = refl

same_bytes : (p q : List ℕ) → same_list p q ≡ bytes_eq p q
same_bytes [] [] = refl
same_bytes [] (y ∷ q) = refl
same_bytes (x ∷ p) [] = refl
same_bytes (x ∷ p) (y ∷ q) = rw (same_bytes p q)

pub row_tested : (d : List ℕ × List Range) (c : Class) → is_row d c ≡ true → Row d.0 d.1 c
unfolding is_row
row_tested d c e =
    let used = leb 1 (length c.ranges.now) in
    let spelt = same_list c.name.now d.0 in
    let same = all (λ b. equal (class_among c b) (among d.1 b)) (numbers 0 256) in
    let each = all_each (λ b. equal (class_among c b) (among d.1 b)) (λ b. class_among c b ≡ among d.1 b)
    (λ b h. equal_true (class_among c b) (among d.1 b) h) (numbers 0 256) (and_right spelt same (and_right used (spelt && same) e)) in
    record {
      some_range = leb-true 1 (length c.ranges.now) (and_left used (spelt && same) e);
      spells = same_list_true c.name.now d.0 (and_left spelt same (and_right used (spelt && same) e));
      has = λ b l. each_among (λ b. class_among c b ≡ among d.1 b) b (numbers 0 256) each (among_numbers 0 256 b (omega arith) (omega arith));
    }

rows_found : (name : List ℕ) (table : List Class) (ds : List (List ℕ × List Range)) → agrees table ds ≡ true → Looked (look_up ds name) (find (λ class. bytes_eq class.name.now name) table)
unfolding agrees look_up
rows_found name [] [] e = record { known = refl; has = λ b l. refl }
rows_found name [] (d ∷ ds) e = let z : ◌≡◌ {A = ℕ} 0 1 = cc in absurd (omega arith)
rows_found name (c ∷ cs) [] e = let z : ◌≡◌ {A = ℕ} 0 1 = cc in absurd (omega arith)
rows_found name (c ∷ cs) (d ∷ ds) e =
    let r = row_tested d c (and_left (is_row d c) (agrees cs ds) e) in
    let q : same_list d.0 name ≡ bytes_eq c.name.now name = same_bytes d.0 name ∙ ap (λ n. bytes_eq n name) (sym r.spells) in
    rw (look_up, q) (by (bytes_eq c.name.now name) r (rows_found name cs ds (and_right (is_row d c) (agrees cs ds) e)))
  where
    by :
        (t : Bool) → Row d.0 d.1 c → Looked (look_up ds name) (find (λ class. bytes_eq class.name.now name) cs) →
        Looked (elim t [ true ↦ some d.1 | false ↦ look_up ds name ]) (cond t (Some c) (find (λ class. bytes_eq class.name.now name) cs))
    by true r h = record { known = refl; has = r.has }
    by false r h = h

pub class_found : (name : List ℕ) (table : List Class) → agrees table classes ≡ true → Looked (class_ranges name) (row_of name table)
unfolding class_ranges row_of
class_found name table e = rows_found name table classes e
