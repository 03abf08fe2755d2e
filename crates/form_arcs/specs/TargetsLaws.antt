-- Laws: how many words a valid form has at most; so its targets fit into the list.
use Rattle.std.specs.Prelude.{ℕ, zero, suc, ◌+◌, ◌*◌, ◌<◌, ◌≤◌, ◌≡◌, ◌⊎◌, List, length, get_or}
use Rattle.std.proofs.Common.{inl, inr, arith}
use Rattle.lists.proofs.OrderLaws.{lt_or_le}
use Rattle.automaton.specs.Form.{letters_of, source, target}
use Rattle.automaton.specs.WordsLaws.{Arc}
use Rattle.automaton.specs.Valid.{Valid}
use Rattle.form_arcs.specs.Targets.{Targets, TargetsListed}

-- the place of an arc among all pairs of 127 letters, from 128 on
abbrev pair_of : ℕ → ℕ
pair_of w = source w * 127 + target w

pair_rises : (l w v : ℕ) → l ≤ 127 → Arc l w → Arc l v → w < v → pair_of w < pair_of v
pair_rises l w v few a b h =
    let x = a.target_high in
    let y = b.target_high in
    let z = a.target_low in
    let u = b.target_low in
    let e = a.same in
    let d = b.same in
    omega arith

-- arcs ascend, so the k-th is at place k or later
later : (f : List ℕ) → Valid f → (k : ℕ) → letters_of f + 1 + k < length f → k + 128 ≤ pair_of (get_or f (letters_of f + 1 + k) 0)
later f valid zero h =
    let a = valid.arc (letters_of f + 1 + 0) (omega arith) h in
    let s = a.source_low in
    let t = a.target_low in
    omega arith
later f valid (suc k) h =
    let before = later f valid k (omega arith) in
    let few = valid.head.letters_high in
    let a = valid.arc (letters_of f + 1 + k) (omega arith) (omega arith) in
    let b = valid.arc (letters_of f + 1 + suc k) (omega arith) h in
    let r =
    pair_rises (letters_of f) (get_or f (letters_of f + 1 + k) 0) (get_or f (letters_of f + 1 + suc k) 0) few a b
    (valid.ascends (letters_of f + 1 + k) (letters_of f + 1 + suc k) (omega arith) (omega arith) h) in
    omega arith

pub valid_short : (f : List ℕ) → Valid f → length f ≤ 16257
valid_short f valid = by (lt_or_le (letters_of f + 1 + 16129) (length f))
  where
    by : (letters_of f + 1 + 16129 < length f) ⊎ (length f ≤ letters_of f + 1 + 16129) → length f ≤ 16257
    by (inl h) =
        let k = later f valid 16129 h in
        let few = valid.head.letters_high in
        let a = valid.arc (letters_of f + 1 + 16129) (omega arith) h in
        let s = a.source_high in
        let t = a.target_high in
        absurd (omega arith)
    by (inr h) = let few = valid.head.letters_high in omega arith

-- targets that were written are in the list
pub targets_there : {f before after : List ℕ} → Valid f → length before ≡ 16384 → TargetsListed f before after → Targets f after
targets_there {f} valid size listed =
    let s = valid_short f valid in
    let z = listed.outside.size in
    record { long = omega arith; is = listed.is }
