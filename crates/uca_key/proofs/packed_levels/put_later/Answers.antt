use Rattle.uca_key.proofs.packed_levels.put_later.Goals as goal

pub put_whole-requires-clause-marked : goal.put_whole-requires-clause-marked
put_whole-requires-clause-marked c = c.requires.marks.second c.args.reading.now.settings.weighting

pub put_whole-requires-in-3-clause-marked : goal.put_whole-requires-in-3-clause-marked
put_whole-requires-in-3-clause-marked c = c.requires.marks.third c.args.reading.now.settings.weighting
