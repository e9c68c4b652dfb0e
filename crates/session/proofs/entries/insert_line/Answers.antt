use Rattle.text.proofs.PutsLaws.{puts_then}
use Rattle.std.proofs.Common.{[], ◌∷◌, ◌++◌}
use Rattle.text.specs.Ascii.{ascii}
use Rattle.span.specs.Chunk.{chunk}
use Rattle.store.specs.Row.{id_of}
use Rattle.script.specs.Print.{id_text, chunk_text}
use Rattle.session.specs.Entries.{lamport_text, insert_line}
use Rattle.session.proofs.entries.insert_line.Goals as goal

pub returns : goal.returns
unfolding insert_line
returns c = let a = c.args in
    let x = a.x in
    let i = id_text (id_of c.args.x.peer c.args.x.counter) in
    let w = ascii "insert" in
    let l = lamport_text x in
    let k = chunk_text (chunk c.args.x.a c.args.x.b) in
    puts_then a.at (((w ++ i) ++ l) ++ k) (10 ∷ []) a.text.now
    (puts_then a.at ((w ++ i) ++ l) k a.text.now
    (puts_then a.at (w ++ i) l a.text.now
    (puts_then a.at w i a.text.now c.put-at.ensures (rw c.id_of.ensures at c.id-at.ensures))
    c.lamport-at.ensures)
    c.chunk-at.ensures)
    c.put.ensures
