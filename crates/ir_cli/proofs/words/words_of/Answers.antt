use Rattle.std.proofs.Common.{◌≡◌, ◌∙◌, ◌&&◌, Bool, not, codes, sym, ap}
use Rattle.clap.specs.Words.{found_of, rows_of}
use Rattle.ir_cli.specs.Meaning.{is_set}
use Rattle.ir_cli.proofs.words.words_of.Goals as goal
use Rattle.ir_cli.proofs.words.words_of.Goals.{then-is_set, else-is_set}

pub returns : goal.returns
returns c = λ name are.
    let rows = rows_of (found_of c.args.found.now) in
    let silent = is_set (codes "no-explain") rows in
    let explain : c.if-is_set.result ≡ (is_set (codes "explain") rows && not silent) = elim c.if-is_set.branch [
      | then-is_set w ↦ w.result-is ∙ ap not w.is_set-then-is_set.ensures ∙ ap (λ (b : Bool). b && not silent) (sym w.if-is_set.true ∙ c.is_set-7.ensures)
      | else-is_set w ↦ w.result-is ∙ w.if-is_set.false ∙ ap (λ (b : Bool). b && not silent) (sym w.if-is_set.false ∙ c.is_set-7.ensures)
    ] in
    record {
      sub = are.sub;
      format = are.format;
      new_format = are.new_format;
      kind = are.kind;
      detour = are.detour;
      root = c.in_ok-root.ensures;
      numbering = c.in_ok-numbering.ensures;
      capacity = are.capacity;
      packets = are.packets;
      restamps = are.restamps;
      threads = are.threads;
      from = c.in_ok-from.ensures.from;
      to = c.in_ok-from.ensures.to;
      node = c.in_ok-from.ensures.node;
      epoch = are.epoch;
      binary = c.is_set.ensures;
      svg = c.is_set-2.ensures;
      second = c.in_ok-second.ensures;
      each = c.is_given.ensures;
      by_node = c.is_by_node.ensures;
      disjoint = c.is_set-3.ensures;
      order_alone = c.is_set-4.ensures;
      nodes = are.nodes;
      steps = c.is_set-5.ensures;
      whole = c.is_set-6.ensures;
      explain = explain;
      json = c.is_set-8.ensures;
      output = c.in_ok-output.ensures;
      quiet = c.is_set-9.ensures;
      files = c.in_ok-files.ensures;
    }
