-- `frames::frame` meets its contract: five words of data make the frame that the code's own words make. Assumes nothing.
use mathlib.Core.Path.{◌≡◌}
use lib.ListN.{length}
use Rattle.configuration.specs.Configuration.{address_of}
use Rattle.frames.specs.Frames.{code_of}
use Rattle.frames.proofs.Frames.{frame-five}
use borrow.Author.Rules.{rules}
use Rattle.frames.proofs.frame.Goals as goal

pub returns : goal.returns
returns c =
    let a = c.args in
    let hd : length a.s.dacs ≡ 5 = search rules in
    let he : length a.s.enables ≡ 4 = search rules in
    rw (c.frame_with.ensures, c.address_of.ensures, c.number.ensures, c.words_for.ensures)
    (frame-five (address_of a.c a.b) (code_of a.code) a.s hd he a.code)
