-- `crc::rest_on` meets its contract. Assumes nothing.
use native.Mathlib.Omega.{arith}
use Rattle.crc.proofs.Steps.{rest-one, rest-two, rest-three}
use Rattle.crc.proofs.rest_on.Goals as goal

pub returns-in-len1 : goal.returns-in-len1
returns-in-len1 c = rest-one c.args.rest.now c.args.word _ _ (omega arith) c.bytes_on.ensures c.word_of.ensures

pub returns-in-len2 : goal.returns-in-len2
returns-in-len2 c = rest-two c.args.rest.now c.args.word _ _ (omega arith) c.bytes_on-in-len2.ensures c.word_of-in-len2.ensures

pub returns-in-len3-up : goal.returns-in-len3-up
returns-in-len3-up c = rest-three c.args.rest.now c.args.word _ _ (omega arith) c.bytes_on-in-len3-up.ensures c.word_of-in-len3-up.ensures
