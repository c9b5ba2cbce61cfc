use Rattle.std.proofs.Common.{◌<◌, ◌≤◌, ◌+◌, length, length-take, take, arith, rules}
use Rattle.std.specs.Io.KnownBytes.{IsAtEnd}
use Rattle.uca_io.specs.Reader.{ReaderState, Gives}
use Rattle.uca_io.proofs.ReaderLemmas.{Gives-none, Gives-fails}
use Rattle.uca_io.proofs.ReadLemmas.{HasRead-start, HasRead-chunk, at_end, at_failure, in_piece, in_large_chunk}
use Rattle.uca_io.proofs.line_reader.read_lines.Goals as goal

pub loop-progress-init : goal.loop-progress-init
loop-progress-init g c = record {
  has = HasRead-start g.S.LineSink.fold (g.S.LineSink.state c.args.sink.now) (g.R.Reader.state c.args.reader.now) c.start-progress.result c.start-progress.ensures.number c.start-progress.ensures.held;
  calls = omega arith;
  ready = search rules;
}

pub returns-in-Ok-eq0-clause-reads : goal.returns-in-Ok-eq0-clause-reads
returns-in-Ok-eq0-clause-reads g c =
    let has = c.loop-progress.invariant.has in
    let old : ReaderState = g.R.Reader.state c.args.reader.now in
    let mid : ReaderState = g.R.Reader.state c.loop-progress.reader in
    let new : ReaderState = g.R.Reader.state c.pull.new.self in
    let some : 0 < length c.pull.new.buf = search rules in
    let gives : Gives old new has.bytes = Gives-none old mid new has.bytes c.pull.new.buf c.in-Ok-eq0.field-0 (search rules) has.gives c.in-Ok-eq0.ensures.bytes.0 c.in-Ok-eq0.ensures.failures in
    let ended : IsAtEnd new.coming = c.in-Ok-eq0.ensures.bytes.1 (search rules) some in
    at_end g.S.LineSink.fold g.S.LineSink.fault_of g.S.LineSink.possible (g.S.LineSink.state c.args.sink.now) (g.S.LineSink.state c.loop-progress.sink) (g.S.LineSink.state c.take_last.new.sink) old mid new c.loop-progress.left c.loop-progress.progress c.take_last.result has (record { gives = gives; ends = ended }) c.take_last.ensures.last c.take_last.ensures.of_text

pub returns-then-n-left-clause-reads : goal.returns-then-n-left-clause-reads
returns-then-n-left-clause-reads g c =
    let old : ReaderState = g.R.Reader.state c.args.reader.now in
    let mid : ReaderState = g.R.Reader.state c.loop-progress.reader in
    let new : ReaderState = g.R.Reader.state c.pull.new.self in
    let one : c.in-Ok.n ≤ c.loop-progress.left + 1 = search rules in
    in_large_chunk g.S.LineSink.fold g.S.LineSink.fault_of g.S.LineSink.possible (g.S.LineSink.state c.args.sink.now) (g.S.LineSink.state c.loop-progress.sink) old mid new c.loop-progress.left c.in-Ok.n c.loop-progress.progress c.pull.new.buf c.too_large.result c.loop-progress.invariant.has c.in-Ok.ensures.bytes.0 c.in-Ok.ensures.failures c.if-n-left.true one c.in-Ok.ensures.bound.0 c.too_large.ensures.fault c.too_large.ensures.of_text

pub loop-progress-preserved : goal.loop-progress-preserved
loop-progress-preserved g c =
    let old : ReaderState = g.R.Reader.state c.args.reader.now in
    let mid : ReaderState = g.R.Reader.state c.loop-progress.reader in
    let new : ReaderState = g.R.Reader.state c.pull.new.self in
    record {
      has = HasRead-chunk g.S.LineSink.fold (g.S.LineSink.state c.args.sink.now) (g.S.LineSink.state c.loop-progress.sink) (g.S.LineSink.state c.take_piece.new.sink) old mid new c.loop-progress.left c.in-Ok.n c.loop-progress.progress c.take_piece.new.progress c.pull.new.buf c.loop-progress.invariant.has c.in-Ok.ensures.bytes.0 c.in-Ok.ensures.failures c.if-n-left.false c.in-Ok.ensures.bound.0 c.in-Ok-take_piece.ensures.goes;
      calls = omega (arith, c.loop-progress.invariant.calls, c.in-Ok.ensures.calls, c.in-Ok.n-test.1, c.if-n-left.false);
      ready = c.in-Ok-take_piece.ensures.ready;
    }

pub returns-in-Err-take_piece-clause-reads : goal.returns-in-Err-take_piece-clause-reads
returns-in-Err-take_piece-clause-reads g c =
    let old : ReaderState = g.R.Reader.state c.args.reader.now in
    let mid : ReaderState = g.R.Reader.state c.loop-progress.reader in
    let new : ReaderState = g.R.Reader.state c.pull.new.self in
    let fits : length (take c.in-Ok.n c.pull.new.buf) ≤ c.loop-progress.left = omega (arith, length-take c.in-Ok.n c.pull.new.buf) in
    in_piece g.S.LineSink.fold g.S.LineSink.fault_of g.S.LineSink.possible (g.S.LineSink.state c.args.sink.now) (g.S.LineSink.state c.loop-progress.sink) old mid new c.loop-progress.left c.loop-progress.progress (take c.in-Ok.n c.pull.new.buf) c.in-Err-take_piece.fault c.loop-progress.invariant.has c.in-Ok.ensures.bytes.0 c.in-Ok.ensures.failures fits c.in-Err-take_piece.ensures.goes c.in-Err-take_piece.ensures.of_text

pub returns-in-Err-clause-reads : goal.returns-in-Err-clause-reads
returns-in-Err-clause-reads g c =
    let old : ReaderState = g.R.Reader.state c.args.reader.now in
    let mid : ReaderState = g.R.Reader.state c.loop-progress.reader in
    let new : ReaderState = g.R.Reader.state c.pull.new.self in
    let has = c.loop-progress.invariant.has in
    at_failure g.S.LineSink.fold (g.S.LineSink.state c.args.sink.now) (g.S.LineSink.state c.loop-progress.sink) old mid new c.loop-progress.left c.loop-progress.progress has (Gives-fails old mid new has.bytes has.gives c.in-Err.ensures.bytes c.in-Err.ensures.failures)
