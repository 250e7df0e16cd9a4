-- `major_end::wind` meets its contract: its four words are those of the descriptor wound back. Assumes nothing.
use Rattle.major_end.proofs.Descriptor.{wound-words}
use Rattle.major_end.proofs.wind.Goals as goal

pub returns : goal.returns
returns c base lent d w m =
    let a = c.args in
    rw (← wound-words a.ch a.t c.modulo_add-saddr.ensures c.modulo_add-daddr.ensures c.ended.ensures c.word422-w0.ensures
    c.word44-w1.ensures c.word422-w2.ensures c.word422-w3.ensures) (c.store_words.ensures base lent d w m)
