-- Laws: Decode's answer from its two phases, the table of costs to go and the trace through it.
use Rattle.std.specs.Prelude.{ℕ, ◌+◌, ◌*◌, ◌≤◌, ◌<◌, ◌≡◌, refl, List, length, get_or, take}
use Rattle.std.proofs.Common.{sym, ap, ap₂, ◌∙◌, arith}
use Rattle.std.proofs.Math.Option.{some, none}
use Rattle.lists.proofs.WrittenLaws.{written_none}
use Rattle.lists.specs.Memory.{written, Wrote}
use Rattle.refusal.specs.declared.Refusal.TheVariants.{NoReading}
use Rattle.refusal.specs.Report.{turned_away}
use Rattle.answers.specs.Decoded.{read}
use Rattle.ctc.specs.Collapse.{collapse}
use Rattle.automaton.specs.Form.{view, letters_of, alphabet_of}
use Rattle.automaton.specs.Valid.{Valid}
use Rattle.automaton.proofs.ValidLaws.{valid_proper}
use Rattle.matrix.specs.Matrix.{Matrix}
use Rattle.trellis.specs.Impossible.{TOP}
use Rattle.trellis.specs.CostToGo.{CostToGo}
use Rattle.trellis.specs.Extended.{extended}
use Rattle.trellis.proofs.OutcomeLaws.{outcome_none, outcome_price, outcome_best}
use Rattle.trellis_table.specs.Fill.{Sized, Filled, states}
use Rattle.trellis_trace.specs.Traced.{Ready, Traced}
use Rattle.trellis_trace.specs.Loops.{traced_front}
use Rattle.decode_checks.specs.Passing.{Fits}
use Rattle.decode_valid.specs.Answers.{DecodeAnswers}
use Rattle.decode_valid.specs.Lent.{Lent, rooms}

module _ {f : List ℕ} (valid : Valid f) {M : Matrix} (before : Lent) (fits : Fits (alphabet_of f) (letters_of f) M (rooms before)) where
  pub sized : Sized f M before.work (states f)
  sized = record { width = fits.wide; size = fits.full; row = omega arith; room = fits.work }

  module _ {work : List ℕ} {v : ℕ} (filled : Filled f M before.work work v) where
    -- there is nothing to read
    pub nothing :
        TOP ≤ v → length work ≡ length before.work → DecodeAnswers f M before (record { path = before.path; word = before.word; work = work }) (turned_away NoReading)
    nothing h l =
        record {
          outcome = none;
          is = (outcome_none (valid_proper f valid) M fits.wide fits.few fits.pass filled.price).0 (let w = filled.price.within in omega arith);
          answered = refl;
          path = sym (written_none before.path);
          word = sym (written_none before.word);
          work = filled.beyond;
          size = l;
        }

    module _ (below : v < TOP) where
      -- the table begins with the row of the first column
      first : get_or work 0 0 < TOP
      first =
          let togo : CostToGo (extended (view f)) M 0 M.count 0 (get_or work (0 + 0 * states f + 0) 0) = filled.table 0 M.count (omega arith) 0 (omega arith) in
          let low = togo.least v (filled.price.met below) in
          let at : 0 + 0 * states f + 0 ≡ 0 = omega arith in
          let same = ap (λ n. get_or work n 0) at in
          omega arith

      pub ready : (stride : ℕ) → stride ≡ states f → length work ≡ length before.work → Ready f M work 0 stride
      ready stride e l =
          let room = fits.work in
          rw e
          (record {
            valid = valid;
            wide = fits.wide;
            size = let s = fits.full in omega arith;
            room = omega arith;
            table = filled.table;
            below = first;
          })

      module _ {path : List ℕ} (traced : Traced (view f) M before.path path) where
        -- there is a path: it, its word and its price are the answer
        pub something :
            {word : List ℕ} {n : ℕ} → length work ≡ length before.work → Wrote (collapse (take M.count path)) before.word word n
            → DecodeAnswers f M before (record { path = path; word = word; work = work }) (read v n 0)
        something {word} {n} l wrote =
            let best = outcome_best (valid_proper f valid) M fits.wide fits.few fits.pass filled.price below traced.path traced.best in
            let same = ap collapse (traced_front traced) in
            record {
              outcome = some traced.path;
              is = best;
              answered =
                  ap₂ (λ p n. read p n 0) (sym (outcome_price (valid_proper f valid) M fits.wide fits.few fits.pass filled.price traced.path best))
                  (wrote.count ∙ ap length same);
              path = traced.memory;
              word = wrote.memory ∙ ap (λ w. written w before.word) same;
              work = filled.beyond;
              size = l;
            }
