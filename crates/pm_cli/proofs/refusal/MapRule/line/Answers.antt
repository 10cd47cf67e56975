use Rattle.pm_cli.proofs.refusal.MapRule.line.Goals as goal

pub returns-in-Permutation : goal.returns-in-Permutation
returns-in-Permutation c = rw c.in-Permutation.is c.format.ensures.ok

pub returns-in-Connected : goal.returns-in-Connected
returns-in-Connected c = rw c.in-Connected.is c.format-in-Connected.ensures.ok

pub returns-in-Empty : goal.returns-in-Empty
returns-in-Empty c = rw c.in-Empty.is c.from_str.ensures.ok

pub returns-in-Vertex : goal.returns-in-Vertex
returns-in-Vertex c = rw c.in-Vertex.is c.format-in-Vertex.ensures.ok

pub returns-in-Double : goal.returns-in-Double
returns-in-Double c = rw c.in-Double.is c.format-in-Double.ensures.ok
