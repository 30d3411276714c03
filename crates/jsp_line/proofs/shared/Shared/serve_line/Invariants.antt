use Rattle.jsp_line.proofs.shared.Shared.serve_line.Given as goal

abbrev pub ghosts-serve_from : goal.ghosts-serve_from
ghosts-serve_from g a = record { start = g.W.Write.contents a.writer }
