-- `commands::listed_as` meets its contract. Assumes nothing.
use Rattle.commands.proofs.Lookup.{each-found, found, unknown}
use Rattle.commands.proofs.Lookup.{unlisted-read, unlisted-write, unlisted-start, unlisted-stop, unlisted-ping, unlisted-reset}
use Rattle.commands.proofs.listed_as.Goals as goal

pub returns-in-1-parameter : goal.returns-in-1-parameter
returns-in-1-parameter c = found _ _ _ (each-found _).0 c.in-1.is c.in-1-parameter.is

pub returns-in-2-parameter : goal.returns-in-2-parameter
returns-in-2-parameter c = found _ _ _ (each-found _).1.0 c.in-1.is c.in-2-parameter.is

pub returns-in_default-parameter : goal.returns-in_default-parameter
returns-in_default-parameter c =
    let r = c.in_default-parameter.in_default-parameter-own.rest in
    unlisted-read _ _ _ c.in-1.is r.0.1 r.1

pub returns-then-parameter-eq1 : goal.returns-then-parameter-eq1
returns-then-parameter-eq1 c = found _ _ _ (each-found _).1.1.0 c.in-2.is c.if-parameter-eq1.true

pub returns-else-parameter-eq1 : goal.returns-else-parameter-eq1
returns-else-parameter-eq1 c = unlisted-write _ _ _ c.in-2.is c.if-parameter-eq1.false

pub returns-in-1-parameter-2 : goal.returns-in-1-parameter-2
returns-in-1-parameter-2 c = found _ _ _ (each-found _).1.1.1.0 c.in-4.is c.in-1-parameter-2.is

pub returns-in-2-parameter-2 : goal.returns-in-2-parameter-2
returns-in-2-parameter-2 c = found _ _ _ (each-found _).1.1.1.1.0 c.in-4.is c.in-2-parameter-2.is

pub returns-in_default-parameter-2 : goal.returns-in_default-parameter-2
returns-in_default-parameter-2 c =
    let r = c.in_default-parameter-2.in_default-parameter-2-own.rest in
    unlisted-start _ _ _ c.in-4.is r.0.1 r.1

pub returns-then-parameter-eq0 : goal.returns-then-parameter-eq0
returns-then-parameter-eq0 c = found _ _ _ (each-found _).1.1.1.1.1.0 c.in-8.is c.if-parameter-eq0.true

pub returns-else-parameter-eq0 : goal.returns-else-parameter-eq0
returns-else-parameter-eq0 c = unlisted-stop _ _ _ c.in-8.is c.if-parameter-eq0.false

pub returns-then-parameter-eq0-2 : goal.returns-then-parameter-eq0-2
returns-then-parameter-eq0-2 c = found _ _ _ (each-found _).1.1.1.1.1.1.0 c.in-16.is c.if-parameter-eq0-2.true

pub returns-else-parameter-eq0-2 : goal.returns-else-parameter-eq0-2
returns-else-parameter-eq0-2 c = unlisted-ping _ _ _ c.in-16.is c.if-parameter-eq0-2.false

pub returns-in-1-parameter-3 : goal.returns-in-1-parameter-3
returns-in-1-parameter-3 c = found _ _ _ (each-found _).1.1.1.1.1.1.1.0 c.in-32.is c.in-1-parameter-3.is

pub returns-in-2-parameter-3 : goal.returns-in-2-parameter-3
returns-in-2-parameter-3 c = found _ _ _ (each-found _).1.1.1.1.1.1.1.1.0 c.in-32.is c.in-2-parameter-3.is

pub returns-in-4-parameter : goal.returns-in-4-parameter
returns-in-4-parameter c = found _ _ _ (each-found _).1.1.1.1.1.1.1.1.1.0 c.in-32.is c.in-4-parameter.is

pub returns-in-8-parameter : goal.returns-in-8-parameter
returns-in-8-parameter c = found _ _ _ (each-found _).1.1.1.1.1.1.1.1.1.1.0 c.in-32.is c.in-8-parameter.is

pub returns-in_default-parameter-3 : goal.returns-in_default-parameter-3
returns-in_default-parameter-3 c =
    let r = c.in_default-parameter-3.in_default-parameter-3-own.rest in
    unlisted-reset _ _ _ c.in-32.is r.0.0.0.1 r.0.0.1 r.0.1 r.1

pub returns-in_default : goal.returns-in_default
returns-in_default c = let r = c.in_default.in_default-own.rest in unknown _ _ _ r.0.0.0.0.0.1 r.0.0.0.0.1 r.0.0.0.1 r.0.0.1 r.0.1 r.1
