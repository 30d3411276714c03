use Rattle.jsp_runs.proofs.one_line.a_line_is_read_no_more_often_than_its_bound.Given as goal

abbrev pub ghosts-read_eight_times-A-Ledger : goal.ghosts-read_eight_times-A-Ledger
ghosts-read_eight_times-A-Ledger g a = record { name = a.asks.name; parts = a.asks.parts }

abbrev pub ghosts-read_eight_times-O-Ledger : goal.ghosts-read_eight_times-O-Ledger
ghosts-read_eight_times-O-Ledger g a = record { name = a.outs.name; parts = a.outs.parts }
