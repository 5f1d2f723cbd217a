-- `stream::input_buffer` meets its contract. Assumes nothing.
use native.Mathlib.Omega.{arith}
use Rattle.stream.specs.Stream.{input_bytes}
use Rattle.stream.proofs.Input.{buffer-enough}
use Rattle.stream.proofs.input_buffer.Goals as goal

pub returns : goal.returns
unfolding input_bytes
returns c = buffer-enough 65537 (omega arith)
