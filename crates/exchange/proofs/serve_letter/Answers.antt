-- `exchange::serve_letter` meets its contract. Assumes nothing.
use Rattle.exchange.proofs.Letters.{far-W, far-X, far-Y, explains-E, on-board}
use Rattle.exchange.proofs.Lines.{by-letter, far-letter}
use Rattle.exchange.proofs.serve_letter.Goals as goal

pub returns-in-87 : goal.returns-in-87
returns-in-87 c =
    let a = c.args in
    let b = a.bytes.now in
    far-letter a.board a.letter b _ a.text.now _ _ (far-W a.letter b c.in-87.is) c.serve_command.ensures

pub returns-in-88 : goal.returns-in-88
returns-in-88 c =
    let a = c.args in
    let b = a.bytes.now in
    far-letter a.board a.letter b _ a.text.now _ _ (far-X a.letter b c.in-88.is) c.serve_packet.ensures

pub returns-in-89 : goal.returns-in-89
returns-in-89 c =
    let a = c.args in
    let b = a.bytes.now in
    far-letter a.board a.letter b _ a.text.now _ _ (far-Y a.letter b c.in-89.is) c.serve_block.ensures

pub returns-in-69 : goal.returns-in-69
returns-in-69 c =
    let a = c.args in
    let b = a.bytes.now in
    by-letter a.board a.letter b _ a.text.now _ _ (explains-E a.letter b c.in-69.is) c.explain_order.ensures

pub returns-in_default : goal.returns-in_default
returns-in_default c =
    let a = c.args in
    let b = a.bytes.now in
    let other = c.in_default.in_default-own.rest in
    let e = on-board a.letter b other.0.0.0.1 other.0.0.1 other.0.1 other.1 in
    by-letter a.board a.letter b _ a.text.now _ _ e c.serve_on_board.ensures
