use Rattle.uca_tailor.proofs.CountLemmas.{AreCounts-exchanged}
use Rattle.uca_tailor.proofs.counts.Counts.exchange.Goals as goal

pub returns-clause-some : goal.returns-clause-some
returns-clause-some c = λ t key had have.
    let self = c.args.self.now in let before = c.args.before.now in let es = c.args.elements.now in
    record {
      first = AreCounts-exchanged 1 t key es before self.first c.deref_mut.result.now c.exchange.new.counts c.deref_mut.ensures.value c.exchange.ensures.size had c.exchange.ensures.reach have.first;
      second = AreCounts-exchanged 2 t key es before self.second c.deref_mut-2.result.now c.exchange-2.new.counts c.deref_mut-2.ensures.value c.exchange-2.ensures.size had c.exchange-2.ensures.reach have.second;
      third = AreCounts-exchanged 3 t key es before self.third c.deref_mut-3.result.now c.exchange-3.new.counts c.deref_mut-3.ensures.value c.exchange-3.ensures.size had c.exchange-3.ensures.reach have.third;
    }
