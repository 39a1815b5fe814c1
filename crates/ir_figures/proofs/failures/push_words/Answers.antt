use Rattle.std.proofs.Common.{◌++◌, refl, string_bytes}
use Rattle.ir_figures.proofs.Results.{on_ok_then}
use Rattle.ir_figures.proofs.FailureLines.{words_told}
use Rattle.ir_figures.proofs.failures.push_words.Goals as goal

pub returns : goal.returns
returns c =
    let figures = c.in_ok-push_figures.ensures in
    on_ok_then c.push_beside.result
    (λ more. (
      figures.0 ++ more.0,
      (figures.0, more.0, figures.1, more.1, refl),
      words_told (string_bytes c.args.text.now) (string_bytes c.push_figures.new.text) (string_bytes c.push_beside.new.text) figures.0 more.0 figures.2 more.2,
    ))
    c.push_beside.ensures
