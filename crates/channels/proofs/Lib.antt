pub mod HopLaws
