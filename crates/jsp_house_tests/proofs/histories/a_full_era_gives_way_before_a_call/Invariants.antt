use Rattle.jsp_house_tests.proofs.histories.a_full_era_gives_way_before_a_call.Given as goal

abbrev pub ghosts-hand_out_in_eras_of_four-A-Ledger : goal.ghosts-hand_out_in_eras_of_four-A-Ledger
ghosts-hand_out_in_eras_of_four-A-Ledger g a = record { name = a.asks.name; parts = a.asks.parts }

abbrev pub ghosts-hand_out_in_eras_of_four-O-Ledger : goal.ghosts-hand_out_in_eras_of_four-O-Ledger
ghosts-hand_out_in_eras_of_four-O-Ledger g a = record { name = a.outs.name; parts = a.outs.parts }
