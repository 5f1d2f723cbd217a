-- `exchange::ask` meets its contract. Assumes nothing.
use Rattle.exchange.proofs.Letters.{asks-F, asks-N, asks-S, asks-L, asks-M, asks-D, asks-other, asked-as}
use Rattle.exchange.proofs.ask.Goals as goal

pub returns-in-70 : goal.returns-in-70
returns-in-70 c =
    let a = c.args in
    asked-as a.board _ _ (asks-F a.letter a.bytes.now c.in-70.is) _ (c.frame_order.ensures _)

pub returns-in-78 : goal.returns-in-78
returns-in-78 c =
    let a = c.args in
    asked-as a.board _ _ (asks-N a.letter a.bytes.now c.in-78.is) _ (c.frames_sent_order.ensures _ _)

pub returns-in-83 : goal.returns-in-83
returns-in-83 c =
    let a = c.args in
    asked-as a.board _ _ (asks-S a.letter a.bytes.now c.in-83.is) _ (c.static_order.ensures _)

pub returns-in-76 : goal.returns-in-76
returns-in-76 c =
    let a = c.args in
    asked-as a.board _ _ (asks-L a.letter a.bytes.now c.in-76.is) _ (c.list_order.ensures _)

pub returns-in-77 : goal.returns-in-77
returns-in-77 c =
    let a = c.args in
    asked-as a.board _ _ (asks-M a.letter a.bytes.now c.in-77.is) _ (c.failure_order.ensures _)

pub returns-in-68 : goal.returns-in-68
returns-in-68 c =
    let a = c.args in
    asked-as a.board _ _ (asks-D a.letter a.bytes.now c.in-68.is) _ (c.dynamic_order.ensures _)

pub returns-in_default : goal.returns-in_default
returns-in_default c =
    let a = c.args in
    let other = c.in_default.in_default-own.rest in
    asks-other a.letter a.bytes.now a.board other.0.0.0.0.0.1 other.0.0.0.0.1
    other.0.0.0.1 other.0.0.1 other.0.1 other.1
