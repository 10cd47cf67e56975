use Rattle.pm_cli.proofs.refusal.Limit.line.Goals as goal

pub returns-in-Bytes : goal.returns-in-Bytes
returns-in-Bytes c = rw c.in-Bytes.is c.from_str.ensures.ok

pub returns-in-Letters : goal.returns-in-Letters
returns-in-Letters c = rw c.in-Letters.is c.format.ensures.ok

pub returns-in-Edges : goal.returns-in-Edges
returns-in-Edges c = rw c.in-Edges.is c.format-in-Edges.ensures.ok

pub returns-in-Lists : goal.returns-in-Lists
returns-in-Lists c = rw c.in-Lists.is c.from_str-in-Lists.ensures.ok
