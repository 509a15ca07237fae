use Rattle.std.proofs.Common.{string_bytes}
use Rattle.std.proofs.lemmas.Result.{IfOk-weaker}
use Rattle.manysheets.proofs.Texts.{known_named}
use Rattle.manysheets.proofs.run_sheets.Goals as goal

pub returns-clause-named : goal.returns-clause-named
returns-clause-named g c =
    let read = rw c.new-text.ensures.bytes at c.in_ok-read_to_string.ensures.bytes in
    IfOk-weaker c.write_lines.result _ _
    (λ _ named. known_named (g.R.Read.remaining c.args.input) (string_bytes c.read_to_string.new.buf) read (rw (c.deref-2.ensures.value, c.in_ok-lines_of.ensures.made, c.deref.ensures) at named))
    c.write_lines.ensures.named
