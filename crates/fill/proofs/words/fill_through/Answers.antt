-- `fill_through` meets its contract.
use native.Mathlib.Omega.{arith}
use Rattle.fill.proofs.ChunkLaws.{chunk_inside, chunk-fills}
use Rattle.fill.proofs.words.fill_through.Goals as goal

pub put_words-requires : goal.put_words-requires
put_words-requires c =
    let few = chunk_inside c.args.s c.requires.0 c.args.bytes.now _ c.args.list.now c.fill_bytes_from-r.result c.requires.1 c.fill_bytes_from-r.ensures in
    (omega arith, few)

pub returns : goal.returns
returns c = rw c.put_words.ensures (chunk-fills c.args.s c.requires.0 c.args.bytes.now _ c.args.list.now c.fill_bytes_from-r.result c.requires.1 c.fill_bytes_from-r.ensures)
