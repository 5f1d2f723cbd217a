-- `exchange::serve_order` meets its contract. Assumes nothing.
use Rattle.exchange.proofs.Letters.{orders-P, orders-C, orders-K, orders-G, orders-R, orders-T, orders-B, orders-other}
use Rattle.exchange.proofs.Letters.{ordered-as, ordered-in-bytes-as}
use Rattle.exchange.proofs.serve_order.Goals as goal

pub returns-in-80 : goal.returns-in-80
returns-in-80 c =
    let a = c.args in
    ordered-as a.board _ _ (orders-P a.letter a.bytes.now c.in-80.is) _ _ _ c.power_up_order.ensures

pub returns-in-67 : goal.returns-in-67
returns-in-67 c =
    let a = c.args in
    ordered-as a.board _ _ (orders-C a.letter a.bytes.now c.in-67.is) _ _ _ c.command_order.ensures

pub returns-in-75 : goal.returns-in-75
returns-in-75 c =
    let a = c.args in
    ordered-as a.board _ _ (orders-K a.letter a.bytes.now c.in-75.is) _ _ _ c.clock_order.ensures

pub returns-in-71 : goal.returns-in-71
returns-in-71 c =
    let a = c.args in
    ordered-in-bytes-as a.board _ _ (orders-G a.letter a.bytes.now c.in-71.is) _ _ _ c.trigger_order.ensures

pub returns-in-82 : goal.returns-in-82
returns-in-82 c =
    let a = c.args in
    ordered-in-bytes-as a.board _ _ (orders-R a.letter a.bytes.now c.in-82.is) _ _ _ c.reply_order.ensures

pub returns-in-84 : goal.returns-in-84
returns-in-84 c =
    let a = c.args in
    ordered-in-bytes-as a.board _ _ (orders-T a.letter a.bytes.now c.in-84.is) _ _ _ c.time_up_order.ensures

pub returns-in-66 : goal.returns-in-66
returns-in-66 c =
    let a = c.args in
    ordered-as a.board _ _ (orders-B a.letter a.bytes.now c.in-66.is) _ _ _ c.begin_rates_order.ensures

pub returns-in_default : goal.returns-in_default
returns-in_default c =
    let a = c.args in
    let other = c.in_default.in_default-own.rest in
    orders-other a.letter a.bytes.now a.board other.0.0.0.0.0.0.1 other.0.0.0.0.0.1 other.0.0.0.0.1
    other.0.0.0.1 other.0.0.1 other.0.1 other.1 c.ask.result _ _ c.ask.ensures
