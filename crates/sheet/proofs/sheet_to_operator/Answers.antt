-- Each way out is a case of the promise.
use Rattle.std.proofs.lemmas.Result.{err_from_is_err_and}
use Rattle.sheet.specs.Laws.Promise.{turned_away, wrote, fits}
use Rattle.sheet.proofs.sheet_to_operator.Goals as goal

pub returns-in_err-read : goal.returns-in_err-read
returns-in_err-read c =
    let p = err_from_is_err_and c.from_residual.result c.from_residual.ensures.1 in
    rw (p.1, p.2) (turned_away c.args.bytes.now c.args.out.now _ c.in_err-read.ensures)

pub write_file-requires : goal.write_file-requires
write_file-requires c = fits c.args.bytes.now c.args.out.now _ c.in_ok-read.ensures

pub returns : goal.returns
returns c = wrote c.args.bytes.now c.args.out.now _ c.in_ok-read.ensures c.write_file.ensures
