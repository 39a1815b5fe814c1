use Rattle.std.proofs.Common.{◌≡◌, ◌++◌, string_bytes}
use Rattle.std.specs.Prelude.{codes}
use Rattle.ir_model.specs.Graph.{names}
use Rattle.ir_trace.specs.Written.{name_at}
use Rattle.ir_exports.specs.Names.{xml}
use Rattle.ir_exports.proofs.Written.{followed}
use Rattle.ir_exports.proofs.circle.svg.push_head.Goals as goal

pub returns : goal.returns
returns c =
    let old = string_bytes c.args.text.now in
    let here : string_bytes c.push_str-2.new.self ≡ old ++ (codes "<svg xmlns=\"http://www.w3.org/2000/svg\" width=\"1280\" height=\"740\" viewBox=\"-370 -370 1280 740\" font-family=\"sans-serif\" font-size=\"13\" fill=\"#1d2733\">\n<title>" ++ xml (name_at (names c.args.graph.now) c.args.u) ++ codes "</title>\n<rect x=\"-370\" y=\"-370\" width=\"1280\" height=\"740\" fill=\"#ffffff\"/>\n") =
    followed old (codes "<svg xmlns=\"http://www.w3.org/2000/svg\" width=\"1280\" height=\"740\" viewBox=\"-370 -370 1280 740\" font-family=\"sans-serif\" font-size=\"13\" fill=\"#1d2733\">\n<title>" ++ xml (name_at (names c.args.graph.now) c.args.u)) (codes "</title>\n<rect x=\"-370\" y=\"-370\" width=\"1280\" height=\"740\" fill=\"#ffffff\"/>\n") (string_bytes c.push_xml_name.new.text) (string_bytes c.push_str-2.new.self) (followed old (codes "<svg xmlns=\"http://www.w3.org/2000/svg\" width=\"1280\" height=\"740\" viewBox=\"-370 -370 1280 740\" font-family=\"sans-serif\" font-size=\"13\" fill=\"#1d2733\">\n<title>") (xml (name_at (names c.args.graph.now) c.args.u)) (string_bytes c.push_str.new.self) (string_bytes c.push_xml_name.new.text) c.in_ok-push_str.ensures.bytes c.in_ok-push_xml_name.ensures) c.in_ok-push_str-2.ensures.bytes in
    here
