-- `reply_series::good_replies` meets its contract. Assumes nothing.
use mathlib.Core.Path.{refl, ◌∙◌}
use Rattle.steps.specs.declared.Event.TheVariants.{Reply}
use Rattle.reply_series.proofs.Items.{few-counted, turn-none, turn-served, items-end}
use native.Mathlib.Omega.{arith}
use Rattle.reply_series.proofs.good_replies.Goals as goal
use Rattle.reply_series.proofs.good_replies.Goals.{then-index-lt4, else-index-lt4}

pub loop-rest-preserved : goal.loop-rest-preserved
loop-rest-preserved c =
    let loop = c.loop-rest in
    let rest = loop.rest.now in
    let l = c.loop-rest-test.true in
    elim c.if-index-lt4.branch [
      | then-index-lt4 a ↦ (
        c.if-index-lt4.auto.frame ∙ loop.invariant.0,
        few-counted rest 29 loop.good _ _ (omega arith) l (omega (arith, a.good-is, a.good_count-good.ensures.1)) loop.invariant.1,
        λ β.
            turn-served _ _ _ rest _ _ l (omega (arith, a.if-index-lt4.true)) _ a.active_word-word.ensures a.serve-served.result _
            a.serve-served.ensures _ a.good_count-good.ensures.0 _ _ _ a.frame-is a.crates-is a.good-is β
            ∙ loop.invariant.2 β,
      )
      | else-index-lt4 a ↦ (
        c.if-index-lt4.auto.frame ∙ loop.invariant.0,
        few-counted rest 29 loop.good _ _ (omega arith) l (omega arith) loop.invariant.1,
        λ β. turn-none _ _ _ rest _ _ l (omega arith) _ _ _ a.frame-is a.crates-is a.good-is β ∙ loop.invariant.2 β,
      )
    ]

pub returns : goal.returns
returns c =
    λ β. items-end Reply 29 refl _ (omega arith) _ _ _ _ (c.loop-rest.invariant.2 β)
