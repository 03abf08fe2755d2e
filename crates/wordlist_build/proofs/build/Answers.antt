-- `wordlist_build::build` meets its contract: the bytes before this one have been read.
use Rattle.std.proofs.Common.{rules}
use Rattle.wordlist_build.specs.Arrays.{Roomy}
use Rattle.wordlist_build.specs.ReachedLoops.{reached_none, reached_more, reached_all, byte_known}
use Rattle.wordlist_build.proofs.build.Goals as goal

pub loop-b-init : goal.loop-b-init
loop-b-init c =
    let roomy : Roomy c.new-trie.result = search rules in
    reached_none c.args.alphabet.now c.args.list.now c.new-trie.result roomy c.new-trie.ensures.0 c.new-trie.ensures.1

pub read_byte-requires : goal.read_byte-requires
read_byte-requires c =
    (c.requires.0, byte_known c.args.alphabet.now c.args.list.now c.loop-b.b-index c.requires.1 c.loop-b-test.true)

pub loop-b-preserved : goal.loop-b-preserved
loop-b-preserved c =
    let l = c.loop-b in
    let e = c.read_byte.ensures in
    reached_more c.args.alphabet.now c.args.list.now l.b-index l.trie c.read_byte.new.self c.loop-b-test.true l.invariant e.roomy e.reads

pub returns : goal.returns
returns c =
    let l = c.loop-b in
    reached_all c.args.alphabet.now c.args.list.now l.b-index l.trie c.loop-b-test.false c.requires.1 l.invariant
