use Rattle.std.proofs.Common.{ap, ◌∙◌, arith, length, length-take}
use Rattle.std.proofs.lemmas.Str.{utf8_valid_len_le}
use Rattle.std.specs.Str.Lossy.{utf8_valid_len}
use Rattle.qh_io.proofs.err_sink.ErrSink.write_some.Goals as goal

pub returns-clause-text : goal.returns-clause-text
returns-clause-text g c =
    let piece = c.args.piece.now in
    ap length c.text_front-text.ensures ∙ length-take (utf8_valid_len piece) piece ∙ omega (arith, utf8_valid_len_le piece)
