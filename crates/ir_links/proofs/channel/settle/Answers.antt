use Rattle.std.proofs.Common.{◌≡◌, ◌∙◌, ◌++◌, List, All, ap, subst, sym}
use Rattle.ir_links.proofs.channel.settle.Goals as goal

pub returns : goal.returns
returns g c =
    let left = c.settle_into.ensures.left in
    let all : c.settle_into.new.into.items ≡ left.0 = left.1 ∙ ap (λ (l : List _). l ++ left.0) c.in-Ok.ensures.items in (
      left.2 ∙ ap (λ (l : List _). c.args.taker.taken ++ l) (sym all),
      subst (λ (l : List _). All (λ x. g.T.Bound.goes_to x c.args.taker.channel.place) l) (sym all) left.3,
    )
