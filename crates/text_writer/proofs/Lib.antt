pub mod UnderWay
pub mod LineParts
