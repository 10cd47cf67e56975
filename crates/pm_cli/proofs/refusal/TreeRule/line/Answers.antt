use Rattle.pm_cli.proofs.refusal.TreeRule.line.Goals as goal

pub returns-in-Degree : goal.returns-in-Degree
returns-in-Degree c = rw c.in-Degree.is c.format.ensures.ok

pub returns-in-Matched : goal.returns-in-Matched
returns-in-Matched c = rw c.in-Matched.is c.format-in-Matched.ensures.ok

pub returns-in-Stems : goal.returns-in-Stems
returns-in-Stems c = rw c.in-Stems.is c.format-in-Stems.ensures.ok

pub returns-in-Closes : goal.returns-in-Closes
returns-in-Closes c = rw c.in-Closes.is c.format-in-Closes.ensures.ok

pub returns-in-Follows : goal.returns-in-Follows
returns-in-Follows c = rw c.in-Follows.is c.format-in-Follows.ensures.ok
