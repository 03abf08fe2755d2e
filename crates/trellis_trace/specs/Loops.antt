-- The trace, one iteration of the loop over columns at a time.
use Rattle.std.specs.Prelude.{ℕ, ◌+◌, ◌*◌, ◌-◌, ◌≤◌, ◌<◌, ◌≡◌, refl, Bool, true, List, [], ◌∷◌, ◌++◌, length, get_or, take, drop, set as put}
use Rattle.std.proofs.Common.{sym, ap, ap₂, ◌∙◌, subst, mul-le-mul_right, arith, length-append, take_at}
use Rattle.lists.proofs.PartLaws.{part_at, part_length}
use Rattle.lists.proofs.WrittenLaws.{written_none, written_more, length_written}
use Rattle.lists.specs.Memory.{written}
use Rattle.lists.specs.Marks.{Has, Marks}
use Rattle.automaton.specs.Automaton.{Automaton}
use Rattle.automaton.specs.Form.{letters_of, alphabet_of, view}
use Rattle.automaton.proofs.ValidLaws.{valid_proper}
use Rattle.matrix.specs.Matrix.{Matrix, cost}
use Rattle.trellis.specs.Impossible.{plus}
use Rattle.trellis.specs.CostToGo.{CostToGo}
use Rattle.trellis.proofs.TraceLaws.{Tracing, tracing_start, tracing_more, tracing_all}
use Rattle.trellis.specs.Extended.{extended}
use Rattle.trellis.proofs.ExtendedLaws.{step_within}
use Rattle.trellis.specs.Reached.{entering, Reached}
use Rattle.trellis.proofs.ReachedLaws.{Kept, Picked, picked_chosen, next_row, some_kept}
use Rattle.trellis_members.specs.Members.{IsEmpty, JustIf}
use Rattle.trellis_members.specs.MembersLaws.{only_marked}
use Rattle.trellis_steps.specs.Steps.{ColumnReady, KeptOf, Within}
use Rattle.trellis_steps.specs.Loops.{entering_high}
use Rattle.trellis_column.specs.Column.{SomeKept, Taken}
use Rattle.trellis_trace.specs.Traced.{Ready, Traced}

-- the memory begins with the path
pub traced_front : {A : Automaton} {M : Matrix} {before after : List ℕ} (t : Traced A M before after) → take M.count after ≡ t.path
unfolding written
traced_front {M = M} {before = before} t =
    ap (take M.count) t.memory ∙ take_at t.path (drop (length t.path) before) M.count t.best.qualifies.long

-- before column t: the labels that are written, the states that they lead to, and what is left to pay
pub record Tracked (f : List ℕ) (M : Matrix) (before : List ℕ) (t : ℕ) (set : List Bool) (left : ℕ) (after : List ℕ) : Type 0 where
  pub so_far : t ≤ M.count
  pub done : List ℕ
  pub long : length done ≡ t
  pub memory : after ≡ written done before
  pub within : Within f (Has set)
  pub tracing : Tracing (extended (view f)) M 0 M.count t (M.count - t) (Has set) left done

pub tracked_length :
    {f : List ℕ} {M : Matrix} {before after : List ℕ} {set : List Bool} {t left : ℕ} → M.count ≤ length before
    → Tracked f M before t set left after → length after ≡ length before
tracked_length {before = before} h s =
    let l = s.long in
    let m = s.so_far in
    ap length s.memory ∙ length_written s.done before (omega arith)

-- column t of the matrix, and the next row of the table, as lists of their own
pub record PartsOf (f : List ℕ) (M : Matrix) (work : List ℕ) (base stride t : ℕ) (column row : List ℕ) : Type 0 where
  pub same_column : (x : ℕ) → x ≤ alphabet_of f → get_or column x 0 ≡ cost M t x
  pub same_row : (u : ℕ) → u ≤ 2 * letters_of f → get_or row u 0 ≡ get_or work (base + (t + 1) * stride + u) 0
  pub wide : alphabet_of f < length column
  pub long : 2 * letters_of f < length row

module _ {f : List ℕ} {M : Matrix} {work : List ℕ} {base stride : ℕ} (ready : Ready f M work base stride) where
  -- no label is written yet
  pub tracked_none :
      (before : List ℕ) {empty set : List Bool} → IsEmpty empty → Marks (JustIf true 0) empty set
      → Tracked f M before 0 set (get_or work base 0) before
  tracked_none before {set = set} nothing start =
      let only : (s : ℕ) → Has set s → s ≡ 0 = λ s h. (only_marked (JustIf true 0) nothing start s h).1 in
      let togo : CostToGo (extended (view f)) M 0 M.count 0 (get_or work (base + 0 * stride + 0) 0) = ready.table 0 M.count (omega arith) 0 (omega arith) in
      let at : base + 0 * stride + 0 ≡ base = omega arith in
      let all : M.count ≡ M.count - 0 = omega arith in
      record {
        so_far = omega arith;
        done = [];
        long = refl;
        memory = sym (written_none before);
        within = λ s h. let e = only s h in omega arith;
        tracing =
            subst (λ n. Tracing (extended (view f)) M 0 M.count 0 n (Has set) (get_or work base 0) []) all
            (tracing_start (extended (view f)) M 0 M.count (get_or work base 0) (Has set) (start.marked 0 (refl, refl)) only
            (subst (λ n. CostToGo (extended (view f)) M 0 M.count 0 (get_or work n 0)) at togo) ready.below);
      }

  -- every column is done
  pub tracked_all :
      {before after : List ℕ} {set : List Bool} {t left : ℕ} → M.count ≤ t → Tracked f M before t set left after
      → Traced (view f) M before after
  tracked_all {set = set} {t = t} {left = left} h s =
      let l = s.so_far in
      let none : M.count - t ≡ 0 = omega arith in
      record {
        path = s.done;
        memory = s.memory;
        best =
            tracing_all (extended (view f)) M
            (subst (λ n. Tracing (extended (view f)) M 0 M.count t n (Has set) left s.done) none s.tracing);
      }

  -- Column t of the matrix, and the next row of the table.
  module _ (t : ℕ) (there : t < M.count) where
    pub column_inside : t * M.width + M.width ≤ length M.costs
    column_inside = let h = mul-le-mul_right M.width there in let s = ready.size in omega arith

    pub row_inside : base + (t + 1) * stride + (2 * letters_of f + 1) ≤ length work
    row_inside = let h = mul-le-mul_right stride there in let r = ready.room in omega arith

    pub parts_of :
        (a e r p : ℕ) → a ≡ t * M.width → e ≡ a + M.width → r ≡ base + (t + 1) * stride → p ≡ r + (2 * letters_of f + 1)
        → PartsOf f M work base stride t (take (e - a) (drop a M.costs)) (take (p - r) (drop r work))
    parts_of a e r p ea ee er ep =
        let c = column_inside in
        let i = row_inside in
        let w = ready.wide in
        record {
          same_column = λ x h. part_at M.costs a e 0 x (omega arith) ∙ ap (λ n. get_or M.costs (n + x) 0) ea;
          same_row = λ u h. part_at work r p 0 u (omega arith) ∙ ap (λ n. get_or work (n + u) 0) er;
          wide = let l = part_length M.costs a e (omega arith) in omega arith;
          long = let l = part_length work r p (omega arith) in omega arith;
        }

    module _ {column row before after : List ℕ} {set : List Bool} {left : ℕ} (parts : PartsOf f M work base stride t column row)
        (tracked : Tracked f M before t set left after) where
      abbrev next : ℕ → ℕ
      next u = get_or work (base + (t + 1) * stride + u) 0

      abbrev rest : ℕ
      rest = M.count - (t + 1)

      -- a state is kept by the two parts exactly if it is kept by the matrix and the table
      keeps_same :
          (u : ℕ) → Reached (view f) (Has set) u
          → plus (get_or column (entering (view f) u) 0) (get_or row u 0) ≡ plus (cost M t (entering (view f) u)) (next u)
      keeps_same u r =
          let h = step_within (valid_proper f ready.valid) r.0 (entering (view f) u) u r.2 (tracked.within r.0 r.1) in
          ap₂ plus (parts.same_column (entering (view f) u) (entering_high f ready.valid u h)) (parts.same_row u h)

      there_kept : (u : ℕ) → KeptOf (view f) column row left (Has set) u → Kept (view f) M t next (Has set) left u
      there_kept u k = (k.0, sym (keeps_same u k.0) ∙ k.1)

      back_kept : (u : ℕ) → Kept (view f) M t next (Has set) left u → KeptOf (view f) column row left (Has set) u
      back_kept u k = (k.0, keeps_same u k.0 ∙ k.1)

      tracing_now : Tracing (extended (view f)) M 0 M.count t (rest + 1) (Has set) left tracked.done
      tracing_now =
          subst (λ n. Tracing (extended (view f)) M 0 M.count t n (Has set) left tracked.done) (omega arith) tracked.tracing

      table_next : (s : ℕ) → s ≤ 2 * letters_of f → CostToGo (extended (view f)) M (t + 1) rest s (next s)
      table_next = ready.table (t + 1) (M.count - (t + 1)) (omega arith)

      pub tracked_sized : ColumnReady f column row left
      tracked_sized = record { valid = ready.valid; wide = parts.wide; long = parts.long; below = tracked.tracing.shared.below }

      pub tracked_kept : SomeKept (view f) column row left (Has set)
      tracked_kept =
          let k = some_kept (valid_proper f ready.valid) M t left next (Has set) tracked.within rest table_next tracing_now.shared in
          (k.0, back_kept k.0 k.2)

      -- one more column
      module _ (set' : List Bool) {label left' : ℕ} (taken : Taken (view f) column row left (Has set) label left' (Has set')) where
        picked : Picked (view f) M t next (Has set) left label (Has set')
        picked =
            record {
              lowest = λ u h k. taken.lowest u (back_kept u k);
              one = taken.one;
              kept = there_kept taken.one taken.kept;
              by_x = taken.by_label;
              hit = λ u h. let k = taken.hit u h in (there_kept u k.0, k.1);
              all = λ u h k e. taken.all u (back_kept u k) e;
            }

        pub tracked_more : M.count ≤ length before → Tracked f M before (t + 1) set' left' (put after t label)
        tracked_more room =
            let proper = valid_proper f ready.valid in
            let G = extended (view f) in
            let o = taken.one in
            let r = taken.kept.0 in
            let within : (s : ℕ) → Has set' s → s ≤ 2 * letters_of f =
            λ s h.
            let k = (taken.hit s h).0.0 in
            step_within proper k.0 (entering (view f) s) s k.2 (tracked.within k.0 k.1) in
            let high : label ≤ alphabet_of f =
            let e = taken.by_label in
            let h = entering_high f ready.valid o (step_within proper r.0 (entering (view f) o) o r.2 (tracked.within r.0 r.1)) in
            omega arith in
            let rest_left : left - cost M t label ≡ left' = ap (λ n. left - n) (sym (parts.same_column label high)) ∙ sym taken.paid in
            let l = tracked.long in
            record {
              so_far = omega arith;
              done = tracked.done ++ (label ∷ []);
              long = simp length-append (omega arith);
              memory = ap (λ m. put m t label) tracked.memory ∙ written_more tracked.done before t label l (omega arith);
              within = within;
              tracing =
                  subst (λ v. Tracing G M 0 M.count (t + 1) (M.count - (t + 1)) (Has set') v (tracked.done ++ (label ∷ []))) rest_left
                  (tracing_more G M rest next tracing_now.shared
                  (next_row proper M t left next (Has set) tracked.within rest table_next)
                  (picked_chosen proper M t left next (Has set) tracked.within picked) tracing_now);
            }
