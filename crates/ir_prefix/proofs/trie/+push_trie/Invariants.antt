use Rattle.ir_prefix.proofs.trie.+push_trie.Given as goal

abbrev pub decreases-push_trie : goal.decreases-push_trie
decreases-push_trie l = l.height
