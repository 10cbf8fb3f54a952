use Rattle.std.proofs.Common.{arith}
use Rattle.line.proofs.commands.command_of.Goals as goal

-- f with four numbers: by what the arm knows of the byte and the numbers, else by cases on what was matched
pub returns-in-102-Four : goal.returns-in-102-Four
returns-in-102-Four c = first_of (simp (c.in-102-Four.is-0, c.in-102-Four.is-1), grind arith)
