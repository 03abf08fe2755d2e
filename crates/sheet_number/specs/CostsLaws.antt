-- Laws of the cost at a place: a lone `-`, or a number.
use Rattle.std.specs.Prelude.{◌≡◌, List, [], ◌∷◌, ◌++◌, true, false, ◌⊎◌, ℕ, ◌+◌, ◌-◌, ◌<◌, length, get_or, eqb, Option as Answer, Some, None}
use Rattle.std.proofs.Math.Path.{refl}
use Rattle.std.proofs.Common.{sym, ap, ◌∙◌, inl, inr, ⊎_elim, arith, eqb-true, eq-eqb, ne_eqb}
use Rattle.lists.specs.Cases.{provided}
use Rattle.lists.proofs.OrderLaws.{and_left, and_right, and_both, not_both}
use Rattle.matrix.specs.Matrix.{BARRED}
use Rattle.sheet_format.specs.Sheet.{numeral_of, cost_of}
use Rattle.sheet_format.proofs.CostLaws.{bar, cost_exactly}
use Rattle.text_lines.specs.Places.{part}
use Rattle.text_lines.proofs.PlacesLaws.{part_none, part_more, part_at, part_length}
use Rattle.sheet_number.specs.Items.{separator, NumberAt, ReadNumber, CostAt, ReadCost, bar_at}
use Rattle.sheet_number.specs.ItemsLaws.{item_begins, separator_within}
use Rattle.sheet_number.specs.declared.Item.{Item}

module _ (input : List ℕ) (at : ℕ) where
  -- the two tests of `is_bar`
  pub no_bar : (get_or input at 0 ≡ 45 → ⊥) → false ≡ bar_at input at
  no_bar n = rw (ne_eqb (get_or input at 0) 45 n)

  pub bar_if_ended : get_or input at 0 ≡ 45 → separator (get_or input (at + 1) 0) ≡ bar_at input at
  bar_if_ended e = rw (eq-eqb (get_or input at 0) 45 e)

  -- a lone `-` is the cost of a barred label
  pub bar_as_cost : bar_at input at ≡ true → ReadCost input at (Some (record { value = BARRED; end = at + 1 }))
  bar_as_cost h =
      let sign = eqb-true (get_or input at 0) 45 (and_left (eqb (get_or input at 0) 45) (separator (get_or input (at + 1) 0)) h) in
      let ends = and_right (eqb (get_or input at 0) 45) (separator (get_or input (at + 1) 0)) h in
      let within = separator_within input (at + 1) ends in
      let text : part at (at + 1) input ≡ bar =
      part_more input at at (omega arith) (omega arith)
      ∙ ap (λ q. q ++ (get_or input at 0 ∷ [])) (part_none input at at (omega arith))
      ∙ ap (λ b. b ∷ []) sign in
      record { is = (cost_exactly (part at (at + 1) input) BARRED).1 (inl (text, refl)); within = within; ends = ends }

  module _ (e v : ℕ) (c : CostAt input at e v) where
    pub cost_begins : at < e
    unfolding cost_of numeral_of provided
    cost_begins = item_begins cost_of refl input at e v c

    -- if its text is `-`, that is the byte at the place
    text_bar : part at e input ≡ bar → bar_at input at ≡ true
    text_bar p =
        let some_byte = cost_begins in
        let within = c.within in
        let n = part_length input at e (omega arith) (omega arith) in
        let one = ap length p in
        let next : e ≡ at + 1 = omega arith in
        let k : at - at ≡ 0 = omega arith in
        let sign : get_or input at 0 ≡ 45 =
        sym (part_at input at e at (omega arith) some_byte) ∙ ap (λ j. get_or (part at e input) j 0) k ∙ ap (λ q. get_or q 0 0) p in
        and_both (eqb (get_or input at 0) 45) (separator (get_or input (at + 1) 0)) (eq-eqb (get_or input at 0) 45 sign)
        (ap (λ j. separator (get_or input j 0)) (sym next) ∙ c.ends)

    cost_kind : (bar_at input at ≡ true) ⊎ NumberAt input at e v
    cost_kind =
        ⊎_elim (λ b. inl (text_bar b.0)) (λ n. inr (record { is = n; within = c.within; ends = c.ends }))
        ((cost_exactly (part at e input) v).0 c.is)

  -- where there is no lone `-`, the cost is the number
  pub number_as_cost : bar_at input at ≡ false → (r : Answer Item) → ReadNumber input at r → ReadCost input at r
  number_as_cost n (Some i) h = record { is = (cost_exactly (part at i.end input) i.value).1 (inr h.is); within = h.within; ends = h.ends }
  number_as_cost n None h = λ e v c. ⊎_elim (λ b. not_both (bar_at input at) b n) (h e v) (cost_kind e v c)
